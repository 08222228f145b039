use Rattle.cluster_tree.specs.Weighing.{AreFlagsBelow}
use Rattle.cluster_tree.proofs.weighing.flags_of.Given as goal

abbrev pub invariant-loop-v : goal.invariant-loop-v
invariant-loop-v l = AreFlagsBelow l.v l.members.members l.flags.items
