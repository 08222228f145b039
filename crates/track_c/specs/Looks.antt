-- What a whole look answers in one call: the find goes on by the word that was read, and then the
-- cell is told at which it looks next, or its answer. A find that has its answer keeps it. And how a
-- finder begins again in its place.
-- Key laws: `track_finder_look` and `track_finder_again`, by their clauses.
use Rattle.std.specs.Prelude.{◌≡◌, ℕ, if◌then◌else◌, [], Option, Some, None, Ok, Err}
use Rattle.entry_word.specs.declared.visit.Key.{Key}
use Rattle.directory.specs.Finds.{after_word, key_of}
use Rattle.region_plan.specs.Plan.{nodes_of}
use Rattle.region_plan.specs.Settings.{setting_of}
use Rattle.walk.specs.Walks.{walk_or_fault}
use Rattle.track_c.specs.Faults.{Answer, code_of}
use Rattle.track_c.specs.Finds.{answer_in, begun, fits, next_look}
use Rattle.track_c.specs.Held.{FinderHeld, Held, a_finder}
use Rattle.track_c.specs.declared.cells.TrackAnswer.{TrackAnswer}
use Rattle.track_c.specs.declared.cells.TrackCell.{TrackCell}
use Rattle.track_c.specs.declared.fault.Fault.TheVariants.{BadWord}

-- a find that has read this word of a cell, if the cell may hold it; without one it stays
abbrev pub gone_on : FinderHeld → ℕ → Option Key → Answer FinderHeld
gone_on finder word None = Ok finder
gone_on finder word (Some key) =
    if fits (nodes_of finder.plan) key word
    then Ok (record finder {
      pursuit = after_word (setting_of finder.plan []) finder.call finder.pursuit word;
    })
    else Err BadWord

-- a find after its next look, which read this word
abbrev pub after_turn : ℕ → FinderHeld → Answer FinderHeld
after_turn word finder = gone_on finder word (key_of finder.call finder.pursuit)

-- the places that a call for a look is lent
pub record Looking : Type 0 where
  pub cell : TrackCell
  pub answer : TrackAnswer

abbrev pub looking : TrackCell → TrackAnswer → Looking
looking cell answer = record { cell = cell; answer = answer }

-- the cell at which a find looks next is told, by the code 0; or its answer, by that of its end
abbrev pub Comes : FinderHeld → Answer TrackCell → ℕ → Looking → Looking → Type 0
Comes finder (Ok cell) code was told = (code ≡ 0) × (told ≡ looking cell was.answer)
Comes finder (Err fault) code was told =
    (code ≡ code_of fault) × (told.cell ≡ was.cell) × (answer_in finder ≡ Ok told.answer)

-- so it is of a find that went on; of one that didn't, the code says why, and all is as before
abbrev pub TellsLook : Answer FinderHeld → ℕ → Held → Held → Looking → Looking → Type 0
TellsLook (Ok finder) code before now was told =
    (now ≡ a_finder finder) × Comes finder (next_look finder) code was told
TellsLook (Err fault) code before now was told =
    (code ≡ code_of fault) × (now ≡ before) × (told ≡ was)

-- a find of a subscriber, one of so many, in the place of another over the same plan
abbrev pub begun_again : ℕ → ℕ → ℕ → FinderHeld → Answer Held
begun_again from sub subs finder = begun finder.plan (walk_or_fault finder.plan from sub subs)
