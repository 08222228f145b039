use Rattle.move_cost.proofs.Paying.{written-bounded}
use Rattle.move_cost.proofs.laws.written_is_bounded.Goals as goal

pub returns : goal.returns
returns c = written-bounded c.move_weighs.ensures (λ setting first steps node. record {
  gathered = λ i. c.levels_after_move.ensures.gathered setting first steps node i;
  address = λ i. c.levels_after_move.ensures.address setting first steps node i;
})
