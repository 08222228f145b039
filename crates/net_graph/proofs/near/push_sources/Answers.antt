use Rattle.std.proofs.Common.{arith, get_or}
use Rattle.std.proofs.lemmas.List.{take_more}
use Rattle.net_graph.proofs.Searching.{begun_more}
use Rattle.net_graph.proofs.near.push_sources.Goals as goal

pub loop-source-preserved : goal.loop-source-preserved
loop-source-preserved c =
    let place = c.loop-source.source-index in
    let below = c.requires.below place 0 c.loop-source-test.true in
    rw (take_more c.args.sources.now place 0 c.loop-source-test.true)
    (begun_more c.loop-source.invariant (get_or c.args.sources.now place 0)
    (omega (arith, below, c.loop-source.auto.weights)) c.in_ok-push.ensures)
