use Rattle.std.proofs.Common.{rules}
use Rattle.distances.proofs.FirstTable.{arcs_step, first_done, no_arcs}
use Rattle.distances.proofs.arcs.lower_to_all_arcs.Goals as goal

pub loop-u-init : goal.loop-u-init
loop-u-init c = no_arcs c.nodes-n.result c.args.width c.args.graph.now.edges c.args.table.now

pub loop-u-preserved : goal.loop-u-preserved
loop-u-preserved c =
    arcs_step c.args.width (rw c.nodes-n.ensures.count c.arcs_of.ensures) c.loop-u.invariant c.lower_to_arcs.ensures

pub returns : goal.returns
returns c = search (rules, first_done)
