use Rattle.std.proofs.Common.{rules, ◌^◌, ◌≤◌, arith}
use Rattle.std.proofs.Math.Nat.{mul-le-mul_right}
use Rattle.whole_powers.specs.PowerLaws.{small_power}
use Rattle.whole_powers.proofs.powers.at_most.Goals as goal

pub pow-requires : goal.pow-requires
pow-requires c = rw c.from.ensures (omega (arith, small_power c.args.z c.args.k c.requires.z_small c.requires.few))

pub pow-requires-2 : goal.pow-requires-2
pow-requires-2 c = rw c.from-3.ensures (omega (arith, small_power c.args.y c.args.k c.requires.y_small c.requires.few))

pub overflow_mul-result : goal.overflow_mul-result
overflow_mul-result c =
    let p : c.pow-2.result ≤ 1024 ^ 8 = rw (c.pow-2.ensures, c.from-3.ensures)
    (small_power c.args.y c.args.k c.requires.y_small c.requires.few) in
    let r : c.from-2.result ≤ 1024 = omega (arith, c.from-2.ensures) in
    omega (arith, mul-le-mul_right c.pow-2.result r)

pub returns : goal.returns
returns c = search rules
