use Rattle.whole_cost.proofs.Together.{whole-bounded}
use Rattle.whole_cost.proofs.laws.whole_runs_are_bounded.Goals as goal

pub returns : goal.returns
returns c = whole-bounded c.finds_in_turn_are_bounded.ensures c.written_is_bounded.ensures
