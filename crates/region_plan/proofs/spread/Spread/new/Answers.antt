use Rattle.region_plan.proofs.Spreading.{marked_all}
use Rattle.region_plan.proofs.spread.Spread.new.Goals as goal

pub returns : goal.returns
returns c = record {
  exponents = c.in_ok-exponents.ensures;
  count = c.in_ok-in_use.ensures.count;
  marked = marked_all c.in_ok-in_use.in_use.items (rw c.deref.ensures.value c.in_ok-exponents.ensures)
      c.in_ok-in_use.ensures.marked;
}
