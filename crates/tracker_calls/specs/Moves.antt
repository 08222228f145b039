-- What a step of a move does to its pass and to its handset, and why none is made. Key law:
-- `move_step`, by its clause `step`.
use Rattle.std.specs.Prelude.{◌≡◌, ℕ, ◌≤◌, Some, None}
use Rattle.entry_word.specs.declared.visit.Visit.{Visit}
use Rattle.directory.specs.Keys.{act_node}
use Rattle.handset.specs.Condition.{HandsetData}
use Rattle.handset.specs.StepWrites.{after_write, due}
use Rattle.station.specs.Handsets.{HandsetGoesOn, IsHandsetOf}
use Rattle.station.specs.Passes.{PassData}
use Rattle.station.specs.Setup.{Setup, setting_in}
use Rattle.station.specs.Visits.{HasLost, HasVisited}
use Rattle.tracker_calls.specs.declared.moves.StepFault.{StepFault}
use Rattle.tracker_calls.specs.declared.moves.StepFault.TheVariants.{AtRest, Unreserved, Held}

-- the pass has made the handset's next visit, with this ticket, and the handset goes on from it
pub record HasStepped (setup : Setup) (old : PassData) (handset : HandsetData) (ticket : ℕ)
    (new : PassData) (moved : HandsetData) : Type 0 where
  pub visit : Visit
  pub next : due (setting_in setup) handset ≡ Some visit
  pub room : 1 ≤ old.spare
  pub visited : HasVisited old visit.act ticket new
  pub made : moved ≡ after_write (setting_in setup) handset handset.stage
  pub own : IsHandsetOf setup new.view moved
  pub goes_on : (own : IsHandsetOf setup old.view handset)
      → HandsetGoesOn setup old.view new.view moved own.steps visit

-- why it isn't made: nothing is left, or the pass has no room, and nothing changes; or the turn
-- at the node of the next visit was lost, and nothing else changes
abbrev pub IsStepFault : Setup → PassData → HandsetData → StepFault → PassData → Type 0
IsStepFault setup old handset AtRest new =
    (due (setting_in setup) handset ≡ None) × (new ≡ old)
IsStepFault setup old handset (Unreserved need) new =
    ((visit : Visit) × (due (setting_in setup) handset ≡ Some visit))
    × (old.spare ≡ 0) × (need ≡ 1) × (new ≡ old)
IsStepFault setup old handset (Held node by) new =
    ((visit : Visit) × (due (setting_in setup) handset ≡ Some visit)
    × HasLost old (act_node (setting_in setup) visit.act) (record { node = node; by = by }) new)
    × (1 ≤ old.spare)
