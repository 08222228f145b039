use Rattle.std.proofs.Common.{◌≡◌, ◌<◌, true, length, get_or, sym, ◌∙◌, arith}
use Rattle.std.proofs.lemmas.Bool.Decides.{nat_tests}
use Rattle.std.specs.Char.{is_ascii_digit}
use Rattle.net_reader.proofs.Digits.{below-most, plain-more, read-more, still-small}
use Rattle.net_reader.proofs.line.leading_number.Goals as goal

pub overflow_mul-number : goal.overflow_mul-number
overflow_mul-number c =
    let few : c.digits.taken < 18 = omega arith in
    let small = below-most c.digits.number c.digits.taken c.digits.invariant.small few in
    omega (arith, small)

pub overflow_add-number : goal.overflow_add-number
overflow_add-number c =
    let few : c.digits.taken < 18 = omega arith in
    let small = below-most c.digits.number c.digits.taken c.digits.invariant.small few in
    grind (arith, nat_tests, small)

pub digits-preserved : goal.digits-preserved
digits-preserved c =
    let piece = c.args.piece.now in
    let taken = c.digits.taken in
    let few : taken < 18 = omega arith in
    let within : taken < length piece = omega arith in
    let b = get_or piece taken 0 in
    let digit : is_ascii_digit b ≡ true = sym c.is_ascii_digit.ensures.value ∙ c.if-is_ascii_digit.true in
    let low : c.from.result < 10 = grind (arith, nat_tests, digit, c.from.ensures) in
    let small = below-most c.digits.number taken c.digits.invariant.small few in
    record {
      within = omega arith;
      plain = plain-more piece taken within digit c.digits.invariant.plain;
      read = grind (arith, nat_tests, read-more);
      small = still-small c.digits.number taken c.from.result c.digits.invariant.small low;
    }
