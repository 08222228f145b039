use Rattle.busy_finds.proofs.Altogether.{finds-in-turn}
use Rattle.busy_finds.proofs.prices.finds_in_turn_are_bounded.Goals as goal

pub returns : goal.returns
returns c = finds-in-turn c.every_find_has_its_price.ensures.bounded
