use Rattle.std.proofs.lemmas.Grind.{common_steps}
use Rattle.std.proofs.Common.{arith}
use Rattle.net_reader.proofs.Running.{first-byte, run-more}
use Rattle.net_reader.proofs.line.Line.run.Goals as goal

pub bytes-preserved : goal.bytes-preserved
bytes-preserved c = grind (arith, first-byte, run-more)

pub bytes-smaller : goal.bytes-smaller
bytes-smaller c = grind (arith, common_steps)
