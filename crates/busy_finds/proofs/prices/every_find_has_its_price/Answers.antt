use Rattle.busy_finds.proofs.Bounded.{every-bounded}
use Rattle.busy_finds.proofs.ByStretch.{have-price}
use Rattle.busy_finds.proofs.Doubled.{between-commits}
use Rattle.busy_finds.proofs.prices.every_find_has_its_price.Goals as goal

pub returns : goal.returns
returns c = record {
  price = have-price c.laws_below.ensures;
  between = between-commits c.finds_meeting_few_moves.ensures;
  bounded = every-bounded c.laws_below.ensures (have-price c.laws_below.ensures);
}
