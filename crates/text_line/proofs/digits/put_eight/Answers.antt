use Rattle.std.proofs.Common.{take, arith}
use Rattle.text_line.proofs.Pairs.{line-four}
use Rattle.text_line.proofs.digits.put_eight.Goals as goal

pub returns-clause-text : goal.returns-clause-text
returns-clause-text c =
    line-four (take c.args.at c.args.bytes.now) _ _ _ c.args.number c.requires.long (omega (arith, c.requires.short))
    c.put_four-first_end.ensures.text c.put_pair-end.ensures.text c.put_pair.ensures.text
