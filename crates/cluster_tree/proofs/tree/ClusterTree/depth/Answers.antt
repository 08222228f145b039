use Rattle.std.proofs.Common.{rules}
use Rattle.cluster_tree.proofs.tree.ClusterTree.depth.Goals as goal

pub returns : goal.returns
returns c = search rules
