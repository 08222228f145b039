use Rattle.std.proofs.Common.{arith}
use Rattle.std.proofs.lemmas.List.{length-replicate}
use Rattle.visit_log.proofs.cells.PlainCells.empty.Goals as goal

pub returns-clause-goes : goal.returns-clause-goes
returns-clause-goes c = grind (arith, length-replicate)
