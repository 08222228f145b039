use Rattle.std.proofs.Common.{◌≡◌, arith, length-drop, ap, length}
use Rattle.std.proofs.lemmas.Bool.Decides.{nat_tests}
use Rattle.net_reader.proofs.whole.long_number.Goals as goal

pub returns-then-end-eq32 : goal.returns-then-end-eq32
returns-then-end-eq32 c =
    let found = c.in_ok-value in
    let piece = c.args.piece.now in
    let ends : found.end ≡ 32 = grind (arith, nat_tests, c.if-end-eq32.true) in
    record {
      number = rw (← ends, c.split_at.ensures.back) found.ensures.number;
      near = omega (arith, found.ensures.few, ap length c.split_at.ensures.back, length-drop found.taken piece);
    }
