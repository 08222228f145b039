use Rattle.std.proofs.Common.{◌≡◌, ◌-◌, get_or, true, ap, subst, ◌∙◌, arith}
use Rattle.std.specs.Char.{is_ascii_digit}
use Rattle.net_reader.proofs.Digits.{below-most, wrapped}
use Rattle.net_reader.proofs.WholeLine.{digit-behind}
use Rattle.net_reader.proofs.whole.digit_more.Goals as goal

pub overflow_mul-result : goal.overflow_mul-result
overflow_mul-result c =
    let small = below-most c.args.value c.args.taken c.requires.read.small c.requires.few in omega (arith, small)

pub overflow_add-result : goal.overflow_add-result
overflow_add-result c = grind (arith, below-most c.args.value c.args.taken c.requires.read.small c.requires.few)

pub returns : goal.returns
returns c =
    let piece = c.args.piece.now in
    let byte = get_or piece c.args.taken 0 in
    let is : c.from.result ≡ byte = c.from.ensures in
    let digit = wrapped c.from.result c.from.type_inv c.from-2.ensures c.if-digit-gt9.false in
    digit-behind c.requires.read c.requires.within c.requires.few (subst (λ b. is_ascii_digit b ≡ true) is digit.0)
    (digit.1 ∙ ap (λ b. b - 48) is)
