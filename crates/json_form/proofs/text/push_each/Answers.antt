use Rattle.std.proofs.lemmas.Grind.{common_steps}
use Rattle.std.proofs.Common.{arith, ◌++◌, ◌∷◌, [], ℕ, List, inr, refl, append_assoc, sym, ap, ◌∙◌}
use Rattle.std.specs.List.{concat}
use Rattle.serde_json.specs.View.{view}
use Rattle.json_form.specs.Left.{line_in}
use Rattle.json_form.proofs.Each.{concat-more, each-more, each-stuck}
use Rattle.json_form.proofs.text.push_each.Goals as goal

pub returns-then-not-write_item-clause-err : goal.returns-then-not-write_item-clause-err
returns-then-not-write_item-clause-err c = inr (
  refl,
  each-stuck (line_in c.args.kind) c.args.items.now c.loop-item.item-index c.item-item.result
      c.loop-item.invariant.0 c.loop-item-test.true c.loop-item.invariant.1
      (ap (λ v. line_in c.args.kind (view v)) (sym c.item-item.is) ∙ c.write_item.ensures.no c.if-not-write_item.true),
)

pub loop-item-preserved : goal.loop-item-preserved
loop-item-preserved c =
    let pieces = c.loop-item.invariant.0 in
    let piece = c.write_item.new.line in (
      pieces ++ piece ∷ [],
      each-more (line_in c.args.kind) c.args.items.now c.loop-item.item-index c.item-item.result pieces piece
          c.loop-item-test.true c.loop-item.invariant.1
          (ap (λ v. line_in c.args.kind (view v)) (sym c.item-item.is)
          ∙ c.write_item.ensures.yes c.if-not-write_item.false),
      c.in_ok-push_line.ensures.text ∙ ap (λ (l : List ℕ). l ++ piece) c.loop-item.invariant.2
          ∙ append_assoc c.args.text.now.items (concat pieces) piece
          ∙ ap (λ (l : List ℕ). c.args.text.now.items ++ l) (sym (concat-more pieces piece)),
      c.in_ok-push_line.ensures.clear,
    )

pub returns : goal.returns
returns c = grind (arith, common_steps)
