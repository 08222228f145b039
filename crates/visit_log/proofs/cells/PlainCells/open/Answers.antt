use Rattle.std.proofs.lemmas.Grind.{common_steps}
use Rattle.std.proofs.Common.{arith}
use Rattle.visit_log.proofs.Opening.{set-first, set-more}
use Rattle.visit_log.proofs.cells.PlainCells.open.Goals as goal

pub loop-level-init : goal.loop-level-init
loop-level-init c = grind (arith, set-first)

pub loop-level-preserved : goal.loop-level-preserved
loop-level-preserved c = grind (arith, set-more)

pub returns : goal.returns
returns c = grind (arith, common_steps)

pub set-requires-in-loop-level : goal.set-requires-in-loop-level
set-requires-in-loop-level c = grind (arith, common_steps)
