use Rattle.std.proofs.Common.{rules, get_or}
use Rattle.distances.specs.declared.weights.TheConstants.{FAR}
use Rattle.distances.specs.declared.near_nodes.Near.{Near}
use Rattle.distances.specs.Lowering.{Among, PairOffer}
use Rattle.distances.proofs.Lowered.{lowered_all, lowered_light, lowered_more}
use Rattle.distances.proofs.near_nodes.lower_pairs.Goals as goal
use Rattle.distances.proofs.near_nodes.lower_pairs.Goals.{then-by_row, else-by_row, then-by_row-2, else-by_row-2}

pub loop-a-preserved : goal.loop-a-preserved
loop-a-preserved c =
    let a : Near = get_or c.args.near.now c.loop-a.a-index (record { node = 0; weight = 0 }) in
    lowered_more (λ a. Among c.args.near.now (PairOffer c.args.width a)) c.args.near.now c.loop-a.a-index
    (record { node = 0; weight = 0 }) c.loop-a-test.true c.loop-a.invariant
    (elim c.if-by_row-2.branch [
      | then-by_row-2 w ↦ rw w.table-is w.lower_whole_row.ensures
      | else-by_row-2 w ↦ rw w.table-is w.lower_row.ensures
    ])

pub lower_whole_row-requires-clause-light : goal.lower_whole_row-requires-clause-light
lower_whole_row-requires-clause-light c =
    lowered_light FAR c.loop-a.invariant c.requires.light

pub returns : goal.returns
returns c = search (rules, lowered_all)

pub lower_whole_row-requires-clause-mine : goal.lower_whole_row-requires-clause-mine
lower_whole_row-requires-clause-mine c = search rules
