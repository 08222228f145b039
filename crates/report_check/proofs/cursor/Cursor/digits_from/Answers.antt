use Rattle.std.proofs.Common.{◌≡◌, ◌+◌, ◌-◌, ◌*◌, ◌<◌, ◌∙◌, ap, sym, List, ℕ, get_or, drop, arith}
use Rattle.std.proofs.lemmas.List.{take_rest}
use Rattle.report_check.specs.Reading.{digits_from}
use Rattle.report_check.proofs.Steps.{digits-end, digits-more, digits-over, digits-stop}
use Rattle.report_check.proofs.cursor.Cursor.digits_from.Goals as goal

pub returns-then-not-is_ascii_digit-clause-some : goal.returns-then-not-is_ascii_digit-clause-some
returns-then-not-is_ascii_digit-clause-some c =
    c.digits.invariant.same
    ∙ digits-stop c.args.limit c.digits.number c.digits.rest.now c.in-len1-up.len_at_least
    (sym c.if-not-is_ascii_digit.ensures.value)

pub returns-then-more-from-clause-none : goal.returns-then-more-from-clause-none
returns-then-more-from-clause-none c =
    c.digits.invariant.same
    ∙ digits-over c.args.limit c.digits.number c.digits.rest.now c.in-len1-up.len_at_least
    (sym c.if-not-is_ascii_digit.ensures.value)
    (omega (
      arith,
      c.if-more-from.true,
      c.from.ensures,
      c.from-in-len1-up.ensures,
      c.from-in-len1-up-2.ensures,
    ))

pub digits-preserved : goal.digits-preserved
digits-preserved c =
    let low : 10 * c.digits.number + (get_or c.digits.rest.now 0 0 - 48) < c.args.limit =
    omega (arith, c.if-more-from.false, c.from.ensures, c.from-in-len1-up.ensures, c.from-in-len1-up-2.ensures) in
    let same : 10 * c.digits.number + (get_or c.digits.rest.now 0 0 - 48)
    ≡ 10 * c.from.result + c.from-in-len1-up.result =
    omega (arith, c.from.ensures, c.from-in-len1-up.ensures) in record {
      low = omega (arith, low, same);
      same = c.digits.invariant.same
          ∙ digits-more c.args.limit c.digits.number c.digits.rest.now c.in-len1-up.len_at_least
          (sym c.if-not-is_ascii_digit.ensures.value) low
          ∙ ap (λ v. digits_from c.args.limit v (drop 1 c.digits.rest.now)) same
          ∙ ap (λ (text : List ℕ). digits_from c.args.limit (10 * c.from.result + c.from-in-len1-up.result) text)
          (sym (take_rest c.digits.rest.now 1));
    }

pub returns-clause-some : goal.returns-clause-some
returns-clause-some c =
    c.digits.invariant.same
    ∙ digits-end c.args.limit c.digits.number c.digits.rest.now c.in_default.len_below
