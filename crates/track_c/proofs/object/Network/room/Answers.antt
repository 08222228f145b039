use Rattle.std.proofs.Common.{◌<◌, [], arith}
use Rattle.std.proofs.lemmas.Bool.{lt-leb}
use Rattle.region_plan.specs.Plan.{PlanData, nodes_of}
use Rattle.track_c.proofs.object.Network.room.Goals as goal

pub returns : goal.returns
returns c =
    let plan : PlanData = c.args.self.now.plan in
    let low : c.args.node < nodes_of plan = omega (arith, c.if-node-nodes.false, c.nodes.ensures.count) in
    let not_high = lt-leb (nodes_of plan) c.args.node low in
    let looks = c.most_looks.ensures [] in
    let puts = c.most_writes.ensures [] in
    grind (arith, not_high, looks, puts)
