use Rattle.directory.specs.Histories.{History}
use Rattle.machine.specs.Machines.{HasHistory, IsSame}
use Rattle.actor_tests.proofs.turn_tests.play.Given as goal

abbrev pub invariant-steps : goal.invariant-steps
invariant-steps g l = record {
  stands : (history : History) × HasHistory l.machine history;
  same : IsSame l.fn.machine l.machine;
}
