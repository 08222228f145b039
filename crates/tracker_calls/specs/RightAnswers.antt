-- What the answer of a find over the tracker tells, in the history that its pass has then seen: the
-- laws of the trail, of the stretch and of every find's price, used there. Key laws: `find` and
-- `find_now`, by their clauses `find` (each answer tells so).
use Rattle.std.specs.Prelude.{ℕ, ◌+◌, ◌≤◌, List}
use Rattle.busy_finds.specs.Plans.{distance_at}
use Rattle.busy_finds.specs.Prices.{gathered_within}
use Rattle.directory.specs.Histories.{History, before, through}
use Rattle.directory.specs.Finds.{FindCall, found_weight}
use Rattle.directory.specs.Looks.{IsQuiet, first_of, last_of}
use Rattle.directory.specs.Standing.{number, passage}
use Rattle.directory.specs.declared.answers.Found.{Found}
use Rattle.region_plan.specs.Matched.{BoundsFinds}
use Rattle.station.specs.Passes.{PassData}
use Rattle.station.specs.Setup.{Setup, setting_in}
use Rattle.stretch_laws.specs.Plans.{bound_of, IsWithinBound}
use Rattle.trail_laws.specs.Rightness.{HasNumber, IsAnswered, IsRight}

-- an answer is right where the find had its last look; a quiet find has one, and over a plan that
-- bounds its finds it travelled at most the bound; every find, whatever falls within it, travelled
-- over such a plan at most the bound on its distance, at any ticket from its first look to its
-- last, with what the moves within had gathered, and on the passage that was open before its first
-- look; and the number that is told is no lower than that in what the pass had seen before
pub record TellsRightly (setup : Setup) (old : PassData) (call : FindCall) (found : Found)
    (made : List ℕ) (seen : History) : Type 0 where
  pub right : IsRight (setting_in setup) seen call.sub found (last_of made)
  pub quiet : IsQuiet seen call.sub (first_of made) (last_of made) → IsAnswered found
  pub near : BoundsFinds setup.plan → IsQuiet seen call.sub (first_of made) (last_of made)
      → IsWithinBound setup.plan setup.homes call found (before (first_of made) seen)
      × IsWithinBound setup.plan setup.homes call found (through (last_of made) seen)
  pub priced : BoundsFinds setup.plan
      → (ticket : ℕ) → first_of made ≤ ticket → ticket ≤ last_of made
      → found_weight found ≤ bound_of setup.plan
      (distance_at setup.plan setup.homes call seen ticket
      + gathered_within (setting_in setup) call.sub seen (first_of made) (last_of made))
      (passage (setting_in setup) call.sub (before (first_of made) seen))
  pub newer : (q : ℕ) → HasNumber found q → number call.sub old.view.seen ≤ q
