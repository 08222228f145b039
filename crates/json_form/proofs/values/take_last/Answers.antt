use Rattle.std.proofs.lemmas.Grind.{common_steps}
use Rattle.std.proofs.Common.{arith, rules}
use Rattle.json_form.proofs.Members.{all-left}
use Rattle.json_form.proofs.values.take_last.Goals as goal

pub returns-then-not-is_empty-clause-none : goal.returns-then-not-is_empty-clause-none
returns-then-not-is_empty-clause-none c = λ callers calls edges k. rw (
  c.in_ok-nodes.ensures.some,
  c.take_order-order.ensures,
  c.in_ok-subs.ensures.some,
  c.in_ok-track.ensures.some,
) (all-left c.take_member-3.new.members.entries _ (grind (arith, rules, c.is_empty.ensures, c.if-not-is_empty.true)))

pub returns : goal.returns
returns c = grind (arith, common_steps)
