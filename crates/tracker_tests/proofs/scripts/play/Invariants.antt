use Rattle.tracker_tests.specs.Ready.{AreReady}
use Rattle.tracker_tests.proofs.scripts.play.Given as goal

abbrev pub invariant-steps : goal.invariant-steps
invariant-steps g l = AreReady l.tracker l.parties.own l.parties.caller l.parties.other l.parties.handset
