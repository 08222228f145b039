use Rattle.std.proofs.Common.{◌∷◌, ◌++◌, [], List, ℕ, ap, append_assoc, get_or, take, ◌*◌, ◌+◌, ◌/◌, ◌∙◌}
use Rattle.text_line.specs.declared.digits.TheConstants.{PAIRS}
use Rattle.text_line.proofs.Pairs.{pair-at}
use Rattle.text_line.proofs.digits.put_pair.Goals as goal

pub returns-clause-text : goal.returns-clause-text
returns-clause-text c =
    let line = take c.args.at c.args.bytes.now in
    let p = pair-at c.args.number c.requires.short in
    let ones = get_or PAIRS (2 * c.args.number + 1) 0 in
    c.put.ensures.text ∙ ap (λ (ds : List ℕ). ds ++ ones ∷ []) c.put-end.ensures.text
    ∙ append_assoc line (get_or PAIRS (2 * c.args.number) 0 ∷ []) (ones ∷ [])
    ∙ ap (λ d. line ++ d ∷ ones ∷ []) p.0 ∙ ap (λ d. line ++ (48 + c.args.number / 10) ∷ d ∷ []) p.1
