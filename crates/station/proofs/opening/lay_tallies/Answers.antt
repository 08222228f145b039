use Rattle.std.proofs.Common.{rules, arith, ◌<◌}
use Rattle.region_plan.specs.Plan.{nodes_of}
use Rattle.station.proofs.Laying.{laid_tally}
use Rattle.station.proofs.opening.lay_tallies.Goals as goal

pub loop-node-preserved : goal.loop-node-preserved
loop-node-preserved c =
    let was = c.loop-node.invariant in
    let known : c.loop-node.node < nodes_of c.args.plan.now = search rules in
    let laid = laid_tally c.loop-node.node known (omega (arith, was.1)) (c.starting_at.ensures.count c.args.plan.now)
    c.in_ok-push.ensures.items was.0 in
    (laid.0, omega (arith, laid.1, was.1))
