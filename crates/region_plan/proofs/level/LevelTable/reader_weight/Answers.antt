use Rattle.std.proofs.Common.{◌+◌, ◌∙◌, arith}
use Rattle.std.proofs.lemmas.List.{get_or_read}
use Rattle.region_plan.proofs.Rows.{weight_read, weight_short}
use Rattle.region_plan.proofs.level.LevelTable.reader_weight.Goals as goal

pub index-requires-2 : goal.index-requires-2
index-requires-2 c = grind (
  arith,
  weight_short c.args.v c.self.view_is c.requires.node c.self.invariant.beside c.index.ensures c.args.place
      c.requires.place,
)

pub returns : goal.returns
returns c =
    c.from.ensures
    ∙ get_or_read c.self.inside.lists.weights.items (c.index.result.now + c.args.place) c.index-2.result.now
    (weight_short c.args.v c.self.view_is c.requires.node c.self.invariant.beside c.index.ensures c.args.place
    c.requires.place) c.index-2.ensures 0
    ∙ weight_read c.args.v c.self.view_is c.requires.node c.self.invariant.beside c.index.ensures c.args.place
    c.requires.place
