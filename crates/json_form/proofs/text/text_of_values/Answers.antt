use Rattle.std.proofs.Common.{◌++◌, List, ℕ, Some, ap, sym, ◌∙◌}
use Rattle.json_form.proofs.text.text_of_values.Goals as goal

pub returns-clause-ok : goal.returns-clause-ok
returns-clause-ok c =
    let lines = c.in_ok-push_listing.ensures.ok in
    lines.1 ∙ ap Some (sym (lines.2 ∙ ap (λ (l : List ℕ). l ++ lines.0) c.new-text.ensures.items))
