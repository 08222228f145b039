use Rattle.cluster_tree.specs.Weighing.{AreWeighedBelow}
use Rattle.cluster_tree.proofs.weighing.weigh.Given as goal

abbrev pub invariant-loop-v : goal.invariant-loop-v
invariant-loop-v l = AreWeighedBelow l.v l.members.members l.weights l.weighed
