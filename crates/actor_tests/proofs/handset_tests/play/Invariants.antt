use Rattle.handset.specs.Condition.{GoesWith}
use Rattle.actor_tests.proofs.handset_tests.play.Given as goal

abbrev pub invariant-steps : goal.invariant-steps
invariant-steps g l = GoesWith l.plan l.handset
