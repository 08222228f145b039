use Rattle.std.proofs.Common.{arith}
use Rattle.machine.proofs.Finishing.{run-first, run-more}
use Rattle.machine.proofs.order.run_end.Goals as goal

pub loop-end-init : goal.loop-end-init
loop-end-init c = record { on = omega arith; run = run-first c.args.order.now c.args.start c.requires.inside }

pub loop-end-preserved : goal.loop-end-preserved
loop-end-preserved c = grind (arith, run-more)
