use Rattle.std.proofs.Common.{◌≡◌, inl, inr, option_and_then, sym, ap, ◌∙◌}
use Rattle.std.proofs.lemmas.Result.{IfErr-weaker, on_ok_weaker}
use Rattle.std.specs.List.{concat}
use Rattle.serde_json.specs.View.{items_view, view}
use Rattle.json_form.specs.Left.{line_in}
use Rattle.json_form.specs.Taking.{each_in, list_in}
use Rattle.json_form.proofs.Listings.{lines-known, lines-none}
use Rattle.json_form.proofs.text.push_items.Goals as goal

pub returns-in-Some-clause-ok : goal.returns-in-Some-clause-ok
returns-in-Some-clause-ok c =
    let kind = c.args.kind in
    let value = view c.args.value.now in
    let same : list_in (line_in kind) value ≡ each_in (line_in kind) (items_view c.deref.result.now) =
    ap (λ o. option_and_then (each_in (line_in kind)) o) (sym c.in-Some.ensures)
    ∙ ap (λ vs. each_in (line_in kind) (items_view vs)) (sym c.deref.ensures.value) in
    on_ok_weaker c.push_each.result (λ h. (concat h.0, lines-known kind value (same ∙ h.1), h.2))
    c.push_each.ensures.ok

pub returns-in-Some-clause-err : goal.returns-in-Some-clause-err
returns-in-Some-clause-err c =
    let kind = c.args.kind in
    let value = view c.args.value.now in
    let same : list_in (line_in kind) value ≡ each_in (line_in kind) (items_view c.deref.result.now) =
    ap (λ o. option_and_then (each_in (line_in kind)) o) (sym c.in-Some.ensures)
    ∙ ap (λ vs. each_in (line_in kind) (items_view vs)) (sym c.deref.ensures.value) in
    IfErr-weaker c.push_each.result _ _ (λ fault h. elim h [
      | inl e ↦ inl e
      | inr e ↦ inr (e.0, lines-none kind value (same ∙ e.1))
    ]) c.push_each.ensures.err
