use Rattle.std.proofs.Common.{arith}
use Rattle.std.proofs.lemmas.List.{length-drop}
use Rattle.net_graph.proofs.Nearing.{clears_next}
use Rattle.net_graph.proofs.near.clear_found.Goals as goal

pub loop-node-preserved : goal.loop-node-preserved
loop-node-preserved c =
    let place = c.loop-node.node-index in
    let below = c.requires.below place 0 c.loop-node-test.true in
    clears_next c.args.found.now place 0 c.loop-node-test.true c.loop-node.invariant
    (omega (arith, below, c.loop-node.auto.weights))
    (omega (arith, below, c.loop-node.auto.unsettled, c.requires.count))

pub returns-clause-weights : goal.returns-clause-weights
returns-clause-weights c v w here = omega (
  arith,
  (c.loop-node.invariant.weighed v w here).1,
  length-drop c.loop-node.node-index c.args.found.now,
  c.loop-node-test.false,
)
