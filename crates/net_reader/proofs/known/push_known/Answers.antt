use Rattle.std.proofs.Common.{not, sym, ap, arith}
use Rattle.std.proofs.lemmas.List.{take_all}
use Rattle.net_reader.proofs.OrderLine.{known-more, taken-more, unknown-at}
use Rattle.net_reader.proofs.known.push_known.Goals as goal

pub loop-number-preserved : goal.loop-number-preserved
loop-number-preserved c =
    let numbers = c.args.numbers.now in
    let i = c.loop-number.number-index in
    record {
      taken = grind (arith, taken-more);
      known = known-more c.args.limit numbers i c.loop-number-test.true c.loop-number.invariant.known
          c.if-number-limit.false;
    }

pub returns-then-number-limit-clause-known : goal.returns-then-number-limit-clause-known
returns-then-number-limit-clause-known c =
    sym (ap not (unknown-at c.args.limit c.args.numbers.now c.loop-number.number-index c.loop-number-test.true
    c.if-number-limit.true))

pub returns-clause-known : goal.returns-clause-known
returns-clause-known c = grind (arith, take_all)

pub returns-clause-taken : goal.returns-clause-taken
returns-clause-taken c = grind (arith, take_all)
