use Rattle.std.proofs.Common.{arith}
use Rattle.net_reader.proofs.WholeLine.{three-read}
use Rattle.net_reader.proofs.whole.edge_numbers.Goals as goal

pub returns : goal.returns
returns c = grind (arith, three-read)
