-- What a store of cells and its users owe, and what comes of it. Each look reads what its cell
-- holds, which is the word of the last put to it or the opening's; each put is the one that its
-- subscriber's puts so far decide on; each look of a find is at the cell that the words before ask
-- for. Then the visits are a legal history, and the find is one of it: so every law of histories
-- and finds holds of it, as that its answer is right.
-- Key laws: `puts_in_turn_are_legal`, `stepped_finds_are_finds`.
use Rattle.std.specs.Prelude.{◌≡◌, ◌⊎◌, ℕ, suc, ◌<◌, ◌≤◌, ◌^◌, List, [], ◌∷◌, length, map, slice_get, take, Some}
use Rattle.entry_word.specs.declared.visit.Key.{Key}
use Rattle.entry_word.specs.declared.visit.Visit.{Visit}
use Rattle.directory.specs.Settings.{Setting, subs, start}
use Rattle.directory.specs.Histories.{History, before, cell, puts_to}
use Rattle.directory.specs.Courses.{MayStep, Step}
use Rattle.directory.specs.Writes.{visit_of, visits, writes}
use Rattle.directory.specs.Puts.{course_in, steps_in}
use Rattle.directory.specs.Legal.{IsLegal}
use Rattle.directory.specs.Finds.{FindCall, Pursuit, after_word, at_origin, ended, key_of}
use Rattle.directory.specs.Looks.{IsFind, look_by}
use Rattle.directory.specs.declared.answers.Found.{Found}

-- a visit is the next put of a subscriber with these puts: the next one of the step that is under
-- way; or, at rest, the first one of a step that may come
abbrev pub IsNextPut : Setting → ℕ → List Visit → Visit → Type 0
IsNextPut setting sub puts visit =
    (slice_get (visits setting sub (steps_in puts)) (length puts) ≡ Some visit)
    ⊎ ((length puts ≡ length (visits setting sub (steps_in puts)))
    × ((step : Step) × MayStep setting (course_in setting sub puts) step
    × (slice_get (map (visit_of sub) (writes setting (course_in setting sub puts) (step ∷ []))) 0
    ≡ Some visit)))

-- each of some puts was the next one after those before it
abbrev pub ComeInTurn : Setting → ℕ → List Visit → Type 0
ComeInTurn setting sub puts =
    (place : ℕ) (visit : Visit) → slice_get puts place ≡ Some visit
    → IsNextPut setting sub (take place puts) visit

-- the puts into a subscriber's cells that come in turn are legal (`puts_in_turn_are_legal`)
abbrev pub PutsInTurnAreLegal : Type 0
PutsInTurnAreLegal =
    (setting : Setting) (sub : ℕ) (history : History) → setting.nodes ≤ 2 ^ 16
    → sub < subs setting → start setting sub < setting.nodes
    → ComeInTurn setting sub (puts_to sub history) → IsLegal setting sub history

-- and those of a legal history come in turn, so that nothing else is owed (`puts_in_turn_are_legal`)
abbrev pub LegalPutsComeInTurn : Type 0
LegalPutsComeInTurn =
    (setting : Setting) (sub : ℕ) (history : History) → setting.nodes ≤ 2 ^ 16
    → IsLegal setting sub history → ComeInTurn setting sub (puts_to sub history)

-- what a find was told: the ticket of a look, and the word that it read
pub record Told : Type 0 where
  pub ticket : ℕ
  pub word : ℕ

-- an actor's looks of a find that is at this pursuit: each at the cell that the words before ask
-- for, later than the one before, and told what the cell held
unfoldable pub AreToldLooks : Setting → History → ℕ → FindCall → ℕ → Pursuit → List Told → Type 0
AreToldLooks setting history actor call earliest pursuit [] = Unit {0}
AreToldLooks setting history actor call earliest pursuit (told ∷ later) =
    (earliest ≤ told.ticket) × ((key : Key) × (key_of call pursuit ≡ Some key)
    × (slice_get history told.ticket ≡ Some (look_by actor key))
    × (told.word ≡ cell setting (before told.ticket history) key)
    × AreToldLooks setting history actor call (suc told.ticket)
    (after_word setting call pursuit told.word) later)

-- where a find is at the end of the words that it was told
unfoldable pub pursuit_told : Setting → FindCall → Pursuit → List Told → Pursuit
pursuit_told setting call pursuit [] = pursuit
pursuit_told setting call pursuit (told ∷ later) =
    pursuit_told setting call (after_word setting call pursuit told.word) later

-- such looks are those of a find of the history, and its answer is the find's own
-- (`stepped_finds_are_finds`)
abbrev pub SteppedFindsAreFinds : Type 0
SteppedFindsAreFinds =
    (setting : Setting) (history : History) (actor : ℕ) (call : FindCall) (found : Found)
    (looks : List Told) → AreToldLooks setting history actor call 0 at_origin looks
    → pursuit_told setting call at_origin looks ≡ ended found
    → IsFind setting history actor call found (map (λ look. look.ticket) looks)
