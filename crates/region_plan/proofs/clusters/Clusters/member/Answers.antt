use Rattle.std.proofs.Common.{◌∙◌, ap}
use Rattle.node_set.specs.Ascending.{has}
use Rattle.region_plan.proofs.Rows.{found_member, missed_member}
use Rattle.region_plan.proofs.clusters.Clusters.member.Goals as goal

pub returns-in-Ok : goal.returns-in-Ok
returns-in-Ok c =
    found_member c.nodes.result.now c.args.v c.in-Ok.field-0
    (rw c.nodes.ensures.members c.nodes.ensures.ascending) c.in-Ok.ensures.position
    ∙ ap (has c.args.v) c.nodes.ensures.members

pub returns-in-Err : goal.returns-in-Err
returns-in-Err c =
    missed_member c.nodes.result.now c.args.v (rw c.nodes.ensures.members c.nodes.ensures.ascending)
    c.in-Err.ensures.position
    ∙ ap (has c.args.v) c.nodes.ensures.members
