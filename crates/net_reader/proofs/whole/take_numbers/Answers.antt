use Rattle.std.proofs.Common.{◌≡◌, ◌<◌, [], refl, arith}
use Rattle.std.proofs.lemmas.Bool.Decides.{nat_tests}
use Rattle.std.proofs.lemmas.List.{length-set}
use Rattle.net_reader.proofs.OrderLine.{number-at, taking-none, written-last, written-more}
use Rattle.net_reader.proofs.WholeLine.{last-read}
use Rattle.net_reader.proofs.whole.take_numbers.Goals as goal

pub numbers-init : goal.numbers-init
numbers-init c = record {
  same = refl;
  most = omega arith;
  within = omega arith;
  room = omega arith;
  taking = taking-none c.args.limit [] c.args.piece.now;
}

pub returns-then-end-ne32-clause-taken : goal.returns-then-end-ne32-clause-taken
returns-then-end-ne32-clause-taken c =
    let found = c.in_ok-number in
    let piece = c.args.piece.now in
    let at = c.numbers.at in
    let behind = c.in_ok-behind.behind.now in
    let less : found.number < c.args.limit = grind (arith, nat_tests, c.if-number-limit.false) in
    written-last found.number c.numbers.count c.numbers.numbers behind c.numbers.invariant.taking
    (last-read (number-at at found.taken piece c.split_at.ensures.back c.split_at-then-end-ne32.ensures.back
    found.ensures.number) c.in_ok-behind.ensures) less (omega arith) (omega arith)

pub numbers-preserved : goal.numbers-preserved
numbers-preserved c =
    let found = c.in_ok-number in
    let piece = c.args.piece.now in
    let at = c.numbers.at in
    let numbers = c.numbers.numbers in
    let less : found.number < c.args.limit = grind (arith, nat_tests, c.if-number-limit.false) in
    let ends : found.end ≡ 32 = grind (arith, nat_tests, c.if-end-ne32.false) in
    record {
      same = omega (arith, c.numbers.invariant.same, length-set numbers c.numbers.count found.number);
      most = omega (arith, length-set numbers c.numbers.count found.number);
      within = omega arith;
      room = omega (arith, found.ensures.few);
      taking = grind (arith, written-more, number-at);
    }
