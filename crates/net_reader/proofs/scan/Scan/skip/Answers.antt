use Rattle.std.proofs.lemmas.Grind.{common_steps}
use Rattle.std.proofs.Common.{arith}
use Rattle.net_reader.proofs.Feeding.{ran}
use Rattle.net_reader.proofs.Running.{run-length}
use Rattle.net_reader.proofs.scan.Scan.skip.Goals as goal

pub returns-clause-read : goal.returns-clause-read
returns-clause-read c = grind (arith, run-length, ran)

pub begin-requires : goal.begin-requires
begin-requires c = grind (arith, run-length)

pub returns-clause-lines : goal.returns-clause-lines
returns-clause-lines c = grind (arith, common_steps)

pub returns-then-rest-piece : goal.returns-then-rest-piece
returns-then-rest-piece c = grind (arith, common_steps)
