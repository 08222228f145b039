use Rattle.net_graph.proofs.Relaxing.{relaxed_next}
use Rattle.net_graph.proofs.search.relax.Goals as goal

pub loop-arc-preserved : goal.loop-arc-preserved
loop-arc-preserved c =
    relaxed_next c.args.arcs.now c.loop-arc.arc-index (record { target = 0; weight = 0 }) c.loop-arc-test.true
    c.loop-arc.invariant c.in_ok-relax_arc.ensures
