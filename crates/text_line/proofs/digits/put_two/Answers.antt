use Rattle.std.proofs.Common.{◌∷◌, ◌++◌, [], List, ℕ, ap, sym, take, ◌∙◌, arith}
use Rattle.std.proofs.lemmas.Fmt.{decimal_digit}
use Rattle.itoa.proofs.Decimal.{decimal_two}
use Rattle.text_line.proofs.digits.put_two.Goals as goal

pub returns-then-number-lt10-clause-text : goal.returns-then-number-lt10-clause-text
returns-then-number-lt10-clause-text c =
    let line = take c.args.at c.args.bytes.now in
    c.put.ensures.text ∙ ap (λ d. line ++ d ∷ []) c.digit.ensures
    ∙ ap (λ (ds : List ℕ). line ++ ds) (sym (decimal_digit c.args.number c.if-number-lt10.true))

pub returns-clause-text : goal.returns-clause-text
returns-clause-text c =
    c.put_pair.ensures.text
    ∙ ap (λ (ds : List ℕ). take c.args.at c.args.bytes.now ++ ds)
    (sym (decimal_two c.args.number (omega (arith, c.if-number-lt10.false)) c.requires.short))
