-- The handset that goes with a pass: it stands for steps that its subscriber may make, and just the
-- puts among what the pass has seen are made. Key law: `visit_put`, by its clauses `made` (the
-- handset goes with the pass after it) and `goes_on` (the put is the last that the pass has seen).
use Rattle.std.specs.Prelude.{◌≡◌, ℕ, ◌+◌, Bool, true, false, not, if◌then◌else◌, List, [], ◌∷◌, ◌++◌, length, take}
use Rattle.entry_word.specs.Marks.{mark_in, says_here}
use Rattle.entry_word.specs.declared.visit.Key.{Key}
use Rattle.entry_word.specs.declared.visit.Key.TheVariants.{Presence, Entry}
use Rattle.entry_word.specs.declared.visit.Act.TheVariants.{Put}
use Rattle.entry_word.specs.declared.visit.Visit.{Visit}
use Rattle.directory.specs.Histories.{puts_to}
use Rattle.directory.specs.Census.{census}
use Rattle.directory.specs.Courses.{Step}
use Rattle.directory.specs.Legal.{IsScript}
use Rattle.directory.specs.Writes.{visits}
use Rattle.handset.specs.Condition.{GoesWith, HandsetData}
use Rattle.handset.specs.Stands.{StandsForSteps}
use Rattle.station.specs.Setup.{Setup, setting_in}
use Rattle.station.specs.declared.view.View.{View}

-- a handset goes with a pass, told by the view
pub record IsHandsetOf (setup : Setup) (view : View) (handset : HandsetData) : Type 0 where
  pub goes : GoesWith setup.plan handset
  pub sub : handset.sub ≡ view.low
  pub steps : List Step
  pub script : IsScript (setting_in setup) view.low steps
  pub stands : StandsForSteps (setting_in setup) handset steps
      (length (puts_to view.low view.seen))
  pub made : puts_to view.low view.seen ≡ take (length (puts_to view.low view.seen))
      (visits (setting_in setup) view.low steps)

-- a handset stays with its pass from one view to another, and stands for the same steps
abbrev pub HandsetStays : Setup → View → View → HandsetData → Type 0
HandsetStays setup old new handset =
    (its : IsHandsetOf setup old handset) → (next : IsHandsetOf setup new handset)
    × (next.steps ≡ its.steps)

-- a handset goes on by a put of its pass: it stands for the same steps, and the put is the last one
-- of its subscriber that the pass has seen
pub record HandsetGoesOn (setup : Setup) (old new : View) (moved : HandsetData) (steps : List Step)
    (put : Visit) : Type 0 where
  pub own : IsHandsetOf setup new moved
  pub steps_are : own.steps ≡ steps
  pub puts : puts_to new.low new.seen ≡ puts_to old.low old.seen ++ put ∷ []

-- a put of a subscriber
abbrev pub put_of : ℕ → Key → ℕ → Visit
put_of sub key word = record { actor = sub; act = Put key word }

-- whether a word that goes into a cell in place of another changes who is at its node
abbrev pub moves_here : Key → ℕ → ℕ → Bool
moves_here (Presence node sub) old new =
    if says_here (mark_in old) then not (says_here (mark_in new)) else says_here (mark_in new)
moves_here (Entry level cluster sub) old new = false

-- a tally that is owed is one more, or one less, as the new word says
pub record Moves (setup : Setup) (view : View) (node : ℕ) (key : Key) (old new : ℕ) : Type 0 where
  pub owes : view.owes ≡ moves_here key old new
  pub more : view.owes ≡ true → says_here (mark_in new) ≡ true
      → length (census (setting_in setup) view.seen node) ≡ view.tally + 1
  pub less : view.owes ≡ true → says_here (mark_in new) ≡ false
      → length (census (setting_in setup) view.seen node) + 1 ≡ view.tally
