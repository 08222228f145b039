use Rattle.std.proofs.Common.{get_or, length, arith}
use Rattle.std.proofs.lemmas.List.{length-replicate}
use Rattle.distances.specs.declared.near_nodes.Near.{Near}
use Rattle.distances.specs.declared.weights.TheConstants.{FAR}
use Rattle.distances.specs.Lowering.{OwnOffer}
use Rattle.distances.proofs.Lowered.{lowered_all, lowered_more, lowered_to}
use Rattle.distances.proofs.near_nodes.spread.Goals as goal

pub loop-b-preserved : goal.loop-b-preserved
loop-b-preserved c =
    let b : Near = get_or c.args.near.now c.loop-b.b-index (record { node = 0; weight = 0 }) in
    let fits = c.requires c.loop-b.b-index (record { node = 0; weight = 0 }) c.loop-b-test.true in
    lowered_more OwnOffer c.args.near.now c.loop-b.b-index (record { node = 0; weight = 0 }) c.loop-b-test.true
    c.loop-b.invariant (lowered_to c.loop-b.weights
    (omega (arith, fits.below, c.loop-b.invariant.count, length-replicate (length c.args.weights.now) FAR))
    c.lower.ensures)

pub returns : goal.returns
returns c = lowered_all OwnOffer c.args.near.now c.loop-b.b-index c.loop-b-test.false c.loop-b.invariant
