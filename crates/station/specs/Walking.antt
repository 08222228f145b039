-- What the next look of a walk needs, and what comes of it: it is made, and the walk goes on by the
-- word that it read; or a turn is lost at its node, and the walk stays as it was.
-- Key law: `visit_walk` (`looked`).
use Rattle.std.specs.Prelude.{◌≡◌, ℕ, ◌<◌, Some, None}
use Rattle.distances.specs.Table.{DistanceTable}
use Rattle.entry_word.specs.declared.visit.Key.{Key}
use Rattle.entry_word.specs.declared.visit.Act.TheVariants.{Look}
use Rattle.directory.specs.Finds.{after_word, key_of}
use Rattle.directory.specs.Histories.{before, cell}
use Rattle.directory.specs.Keys.{key_node}
use Rattle.region_plan.specs.Plan.{PlanData}
use Rattle.walk.specs.Walks.{IsWalkOver, WalkData, call_of, pursuit_of}
use Rattle.station.specs.Passes.{IsPassOf, PassData, TrackerData}
use Rattle.station.specs.Setup.{Setup, setting_in, subs_in}
use Rattle.station.specs.Visits.{HasLost, HasVisited}
use Rattle.station.specs.declared.turns.Held.{Held}

-- a walk may go on by looks of a pass, in no node, over the tracker's own plan and its distances
pub record MayWalkOn (tracker : TrackerData) (plan : PlanData) (distances : DistanceTable)
    (pass : PassData) (walk : WalkData) : Type 0 where
  pub of : IsPassOf tracker pass
  pub plan_is : plan ≡ tracker.setup.plan
  pub belongs : plan.distances ≡ distances
  pub outside : pass.view.inside ≡ None
  pub goes : IsWalkOver tracker.setup.plan walk
  pub known : walk.sub < subs_in tracker.setup

-- a walk has made its next look, with this ticket
pub record HasLookedOn (setup : Setup) (old : PassData) (walk : WalkData) (ticket : ℕ)
    (new : PassData) (moved : WalkData) : Type 0 where
  pub key : Key
  pub wanted : key_of (call_of walk) (pursuit_of setup.plan walk) ≡ Some key
  pub visited : HasVisited old (Look key) ticket new
  pub pursuit : pursuit_of setup.plan moved ≡ after_word (setting_in setup) (call_of walk)
      (pursuit_of setup.plan walk) (cell (setting_in setup) (before ticket new.view.seen) key)
  pub call : call_of moved ≡ call_of walk
  pub goes : IsWalkOver setup.plan moved

-- a walk has lost a turn at the node of its next look, and stays as it was
pub record HasLostLook (setup : Setup) (old : PassData) (walk : WalkData) (held : Held)
    (new : PassData) (moved : WalkData) : Type 0 where
  pub key : Key
  pub wanted : key_of (call_of walk) (pursuit_of setup.plan walk) ≡ Some key
  pub lost : HasLost old (key_node (setting_in setup) key) held new
  pub same : moved ≡ walk
