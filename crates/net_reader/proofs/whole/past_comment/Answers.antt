use Rattle.std.proofs.Common.{arith}
use Rattle.net_reader.proofs.Running.{first-byte}
use Rattle.net_reader.proofs.WholeLine.{comment-ends, comment-to}
use Rattle.net_reader.proofs.whole.past_comment.Goals as goal

pub returns : goal.returns
returns c = grind (arith, first-byte, comment-to, comment-ends)
