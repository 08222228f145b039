use Rattle.std.proofs.Common.{arith}
use Rattle.net_reader.proofs.WholeLine.{last-read}
use Rattle.net_reader.proofs.whole.wide_last.Goals as goal

pub returns : goal.returns
returns c = grind (arith, last-read)
