use Rattle.std.proofs.Common.{◌≡◌, ◌++◌, map}
use Rattle.std.specs.Vec.Iter.{into_iter_items}
use Rattle.region_plan.specs.Coverings.{in_phase_0}
use Rattle.region_plan.proofs.covering.in_one_phase.Given as goal

abbrev pub invariant-loop-cluster : goal.invariant-loop-cluster
invariant-loop-cluster l = record {
  done : l.phased.items ≡ map in_phase_0 l.yielded;
  all : l.fn.cover.clusters.items ≡ l.yielded ++ into_iter_items l.cluster-iterator;
}
