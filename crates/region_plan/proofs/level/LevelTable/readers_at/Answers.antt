use Rattle.std.proofs.Common.{rules, arith}
use Rattle.region_plan.proofs.Rows.{node_order, node_start, read_row, row_short}
use Rattle.region_plan.proofs.level.LevelTable.readers_at.Goals as goal

pub index-requires : goal.index-requires
index-requires c = grind (arith, node_start)

pub index-requires-2 : goal.index-requires-2
index-requires-2 c = grind (arith, node_start)

pub slice_bounds-result-count : goal.slice_bounds-result-count
slice_bounds-result-count c =
    node_order c.args.v c.self.view_is c.requires c.self.invariant.rows c.index.ensures c.index-2.ensures

pub returns : goal.returns
returns c = search (rules, read_row, row_short)
