use Rattle.std.proofs.Common.{◌∙◌, ap, List, ℕ, bytes_eq}
use Rattle.json_form.proofs.Members.{next-is}
use Rattle.json_form.proofs.values.is_next.Goals as goal

pub returns-in-Some : goal.returns-in-Some
returns-in-Some c =
    c.eq.ensures
    ∙ ap (λ (name : List ℕ). bytes_eq name c.args.key.now) c.as_str.ensures.value
    ∙ next-is c.args.key.now c.args.members.now.entries c.in-Some.name.now c.in-Some.field-0-1.now
    c.in-Some.ensures.first
