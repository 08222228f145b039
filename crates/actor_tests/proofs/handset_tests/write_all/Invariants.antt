use Rattle.handset.specs.Condition.{GoesWith}
use Rattle.actor_tests.proofs.handset_tests.write_all.Given as goal

abbrev pub invariant-writes : goal.invariant-writes
invariant-writes l = GoesWith l.plan l.handset
