use Rattle.std.proofs.Common.{sym}
use Rattle.report_check.proofs.Shorts.{one-digit, three-digits, two-digits}
use Rattle.report_check.proofs.cursor.short_number.Goals as goal

pub returns-then-not-is_ascii_digit-2-clause-some : goal.returns-then-not-is_ascii_digit-2-clause-some
returns-then-not-is_ascii_digit-2-clause-some c =
    one-digit c.args.text.now c.in-len5-up.len_at_least c.if-blank-ne32.false
    (sym c.if-not-is_ascii_digit.ensures.value) (sym c.if-not-is_ascii_digit-2.ensures.value) c.from-first.ensures

pub returns-then-not-is_ascii_digit-3-clause-some : goal.returns-then-not-is_ascii_digit-3-clause-some
returns-then-not-is_ascii_digit-3-clause-some c =
    two-digits c.args.text.now c.in-len5-up.len_at_least c.if-blank-ne32.false
    (sym c.if-not-is_ascii_digit.ensures.value) (sym c.if-not-is_ascii_digit-2.ensures.value)
    (sym c.if-not-is_ascii_digit-3.ensures.value) c.if-a-eq48.false c.from-first.ensures c.from-second.ensures

pub returns-clause-some : goal.returns-clause-some
returns-clause-some c =
    three-digits c.args.text.now c.in-len5-up.len_at_least c.if-blank-ne32.false
    (sym c.if-not-is_ascii_digit.ensures.value) (sym c.if-not-is_ascii_digit-2.ensures.value)
    (sym c.if-not-is_ascii_digit-3.ensures.value) (sym c.if-is_ascii_digit.ensures.value) c.if-a-eq48.false
    c.from-first.ensures c.from-second.ensures c.from-third.ensures
