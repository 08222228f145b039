use Rattle.std.proofs.Common.{◌≡◌, ◌++◌}
use Rattle.std.specs.Vec.Iter.{into_iter_items}
use Rattle.node_set.specs.Workspaces.{IsWorkspace}
use Rattle.region_plan.specs.Laid.{AreLaid, clusters_of_lists}
use Rattle.region_plan.specs.Meanings.{AreClustersOf}
use Rattle.region_plan.proofs.clusters.ClusterLists.push_cover.Given as goal

abbrev pub invariant-loop-cluster : goal.invariant-loop-cluster
invariant-loop-cluster l = record {
  work : IsWorkspace l.graph.nodes l.work;
  laid : AreLaid l.self;
  done : AreClustersOf l.graph l.yielded (clusters_of_lists l.self);
  all : l.fn.made.items ≡ l.yielded ++ into_iter_items l.cluster-iterator;
}
