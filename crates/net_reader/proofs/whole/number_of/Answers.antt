use Rattle.std.proofs.Common.{arith}
use Rattle.net_reader.proofs.WholeLine.{number-to}
use Rattle.net_reader.proofs.whole.number_of.Goals as goal

pub returns-clause-number : goal.returns-clause-number
returns-clause-number c = grind (arith, number-to)
