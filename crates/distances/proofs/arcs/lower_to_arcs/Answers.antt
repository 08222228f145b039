use Rattle.std.proofs.Common.{rules, get_or, ◌∙◌, arith}
use Rattle.net_graph.specs.declared.neighbours.Arc.{Arc}
use Rattle.distances.specs.Lowering.{ArcOffer}
use Rattle.distances.proofs.Lowered.{lowered_all, lowered_more, lowered_to}
use Rattle.distances.proofs.Writing.{in_table}
use Rattle.distances.proofs.arcs.lower_to_arcs.Goals as goal

pub loop-arc-preserved : goal.loop-arc-preserved
loop-arc-preserved c =
    let arc : Arc = get_or c.args.arcs.now c.loop-arc.arc-index (record { target = 0; weight = 0 }) in
    lowered_more (ArcOffer c.args.width c.args.u) c.args.arcs.now c.loop-arc.arc-index
    (record { target = 0; weight = 0 }) c.loop-arc-test.true c.loop-arc.invariant
    (lowered_to c.loop-arc.table
    (in_table c.args.n c.args.width c.args.u arc.target c.loop-arc.table (c.loop-arc.auto.table ∙ c.requires.count)
    c.requires.below (omega (
      arith,
      c.requires.wide,
      (c.requires.arcs c.loop-arc.arc-index (record { target = 0; weight = 0 }) c.loop-arc-test.true).below,
    ))) c.lower.ensures)

pub returns : goal.returns
returns c = search (rules, lowered_all)
