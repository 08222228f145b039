use Rattle.std.proofs.Common.{arith}
use Rattle.cluster_tree.specs.PlaceLaws.{found_place, always_found}
use Rattle.region_plan.proofs.clusters.Clusters.weight.Goals as goal

pub unreachable-requires : goal.unreachable-requires
unreachable-requires c =
    always_found c.nodes.result.now c.args.v c.in-Err.field-0
    (rw c.nodes.ensures.members c.nodes.ensures.ascending) (rw c.nodes.ensures.members c.requires.member)
    c.in-Err.ensures.position

pub returns : goal.returns
returns c = grind (arith, found_place)
