use Rattle.std.proofs.Common.{◌≡◌, ◌≤◌}
use Rattle.std.specs.Prelude.{Some}
use Rattle.entry_word.specs.declared.visit.Key.{Key}
use Rattle.directory.specs.Finds.{key_of}
use Rattle.directory.specs.Keys.{key_node}
use Rattle.walk.specs.Walks.{call_of, pursuit_of}
use Rattle.station.specs.Setup.{setting_in}
use Rattle.station.specs.Walking.{MayWalkOn}
use Rattle.tracker_calls.specs.Added.{HasTried}
use Rattle.tracker_calls.proofs.walking.look_when_free.Given as goal

abbrev pub invariant-tries : goal.invariant-tries
invariant-tries g l = record {
  tried : (key : Key) → key_of (call_of l.fn.walk) (pursuit_of l.fn.tracker.setup.plan l.fn.walk) ≡ Some key
      → HasTried (key_node (setting_in l.fn.tracker.setup) key) l.fn.pass l.pass;
  way : MayWalkOn l.fn.tracker l.fn.plan l.fn.distances l.pass l.walk;
  spare : 1 ≤ l.pass.spare;
  walk : l.walk ≡ l.fn.walk;
}
