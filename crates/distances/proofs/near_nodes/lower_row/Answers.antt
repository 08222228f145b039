use Rattle.std.proofs.Common.{rules, get_or, ◌∙◌, arith}
use Rattle.distances.specs.declared.near_nodes.Near.{Near}
use Rattle.distances.specs.Lowering.{PairOffer}
use Rattle.distances.proofs.Lowered.{lowered_all, lowered_more, lowered_to}
use Rattle.distances.proofs.Writing.{in_table}
use Rattle.distances.proofs.near_nodes.lower_row.Goals as goal

pub loop-b-preserved : goal.loop-b-preserved
loop-b-preserved c =
    let b : Near = get_or c.args.near.now c.loop-b.b-index (record { node = 0; weight = 0 }) in
    lowered_more (PairOffer c.args.width c.args.a) c.args.near.now c.loop-b.b-index (record { node = 0; weight = 0 })
    c.loop-b-test.true c.loop-b.invariant (lowered_to c.loop-b.table
    (in_table c.args.n c.args.width c.args.a.node b.node c.loop-b.table (c.loop-b.auto.table ∙ c.requires.count)
    c.requires.a.below (omega (
      arith,
      c.requires.wide,
      (c.requires.near c.loop-b.b-index (record { node = 0; weight = 0 }) c.loop-b-test.true).below,
    ))) c.lower.ensures)

pub returns : goal.returns
returns c = search (rules, lowered_all)
