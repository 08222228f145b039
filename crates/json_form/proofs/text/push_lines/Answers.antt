use Rattle.std.proofs.Common.{◌<◌, ◌++◌, ℕ, List, inr, length, refl, ap, ◌∙◌, arith, rules}
use Rattle.json_form.specs.Taking.{number_in}
use Rattle.json_form.proofs.Each.{none-by-count}
use Rattle.json_form.proofs.Orders.{all-written, empty-list, line-written, min-is, none-written, some-stuck}
use Rattle.json_form.proofs.text.push_lines.Goals as goal

pub lines-init : goal.lines-init
lines-init c = none-written c.args.items.now c.args.text.now.items c.requires

pub returns-then-not-write_row-clause-err : goal.returns-then-not-write_row-clause-err
returns-then-not-write_row-clause-err c = inr (
  refl,
  some-stuck c.min.result c.lines.invariant c.split_at.ensures.front c.split_at.ensures.back
      (none-by-count number_in c.split_at.result.0.now (c.write_row.ensures.no c.if-not-write_row.true)),
)

pub lines-preserved : goal.lines-preserved
lines-preserved c =
    let row = c.write_row.ensures.yes c.if-not-write_row.false in
    let some : 0 < length c.lines.left.now = grind (arith, rules, c.lines-test.true, c.is_empty.ensures) in
    let least = min-is (length c.lines.left.now) c.min.ensures in
    line-written c.lines.invariant some least.0 least.1 least.2 c.split_at.ensures.front c.split_at.ensures.back row.1
    c.split_at.ensures.front_len (c.in_ok-push_line.ensures.text ∙ ap (λ (l : List ℕ). c.lines.text.items ++ l) row.3)
    c.in_ok-push_line.ensures.clear

pub returns-clause-ok : goal.returns-clause-ok
returns-clause-ok c =
    all-written c.lines.invariant (empty-list c.lines.left.now
    (grind (arith, rules, c.lines-test.false, c.is_empty.ensures)))
