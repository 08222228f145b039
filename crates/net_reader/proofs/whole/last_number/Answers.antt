use Rattle.std.proofs.Common.{arith}
use Rattle.net_reader.proofs.WholeLine.{last-read}
use Rattle.net_reader.proofs.whole.last_number.Goals as goal

pub returns-in-Some-past_end : goal.returns-in-Some-past_end
returns-in-Some-past_end c = grind (arith, last-read)
