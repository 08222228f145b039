use Rattle.std.proofs.Common.{rules, arith}
use Rattle.visit_log.proofs.Apart.{slot-within}
use Rattle.visit_log.proofs.cells.PlainCells.index.Goals as goal

pub returns-clause-place : goal.returns-clause-place
returns-clause-place c = search rules

pub returns-clause-within : goal.returns-clause-within
returns-clause-within c = grind (arith, slot-within)
