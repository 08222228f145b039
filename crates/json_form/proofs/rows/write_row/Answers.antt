use Rattle.std.proofs.Common.{◌≡◌, ℕ, ◌++◌, ◌∷◌, [], List, Some, append_assoc, sym, ap, ◌∙◌, arith}
use Rattle.std.proofs.lemmas.List.{take_all}
use Rattle.outside.specs.Texts.{field, fields}
use Rattle.serde_json.specs.View.{items_view, view}
use Rattle.json_form.specs.Taking.{each_in, number_in}
use Rattle.json_form.proofs.Each.{each-length, each-more, each-stuck, fields-more}
use Rattle.json_form.proofs.rows.write_row.Goals as goal

pub returns-then-items-count-clause-no : goal.returns-then-items-count-clause-no
returns-then-items-count-clause-no c = λ no ns is count.
    c.if-items-count.true (sym (each-length number_in c.args.items.now ns is) ∙ count)

pub returns-in-None-clause-no : goal.returns-in-None-clause-no
returns-in-None-clause-no c = λ no ns is count.
    let stuck = each-stuck number_in c.args.items.now c.loop-item.item-index c.item-item.result
    c.loop-item.invariant.0 c.loop-item-test.true c.loop-item.invariant.1
    (ap (λ v. number_in (view v)) (sym c.item-item.is) ∙ sym c.in-None.ensures) in
    let none = sym stuck ∙ is in cc

pub loop-item-preserved : goal.loop-item-preserved
loop-item-preserved c =
    let ns = c.loop-item.invariant.0 in
    let n = c.in-Some.number in (
      ns ++ n ∷ [],
      each-more number_in c.args.items.now c.loop-item.item-index c.item-item.result ns n c.loop-item-test.true
          c.loop-item.invariant.1 (ap (λ v. number_in (view v)) (sym c.item-item.is) ∙ sym c.in-Some.ensures),
      c.number.ensures.text ∙ ap (λ (l : List ℕ). l ++ field n) c.loop-item.invariant.2
          ∙ (append_assoc c.args.word.now (fields ns) (field n))
          ∙ ap (λ (l : List ℕ). c.args.word.now ++ l) (sym (fields-more ns n)),
      omega (arith, c.number.ensures.long, c.loop-item.invariant.3),
    )

pub returns-clause-yes : goal.returns-clause-yes
returns-clause-yes c = λ yes.
    let ns = c.loop-item.invariant.0 in
    let all : each_in number_in (items_view c.args.items.now) ≡ Some ns =
    ap (λ l. each_in number_in (items_view l)) (sym (take_all c.loop-item.item-index c.args.items.now
    c.loop-item-test.false)) ∙ c.loop-item.invariant.1 in (
      ns,
      all,
      each-length number_in c.args.items.now ns all ∙ c.if-items-count.false,
      c.word-2.ensures.text ∙ ap (λ (l : List ℕ). l ++ 10 ∷ []) c.loop-item.invariant.2
          ∙ append_assoc c.args.word.now (fields ns) (10 ∷ []),
    )
