use Rattle.std.proofs.Common.{take, arith}
use Rattle.text_line.proofs.Pairs.{line-pair}
use Rattle.text_line.proofs.digits.put_four.Goals as goal

pub returns-clause-text : goal.returns-clause-text
returns-clause-text c =
    line-pair (take c.args.at c.args.bytes.now) _ _ c.args.number (omega (arith, c.if-number-lt100.false))
    (omega (arith, c.requires.short)) c.put_two-end.ensures.text c.put_pair.ensures.text
