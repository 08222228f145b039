use Rattle.std.proofs.Common.{arith}
use Rattle.std.proofs.lemmas.Bool.Decides.{nat_tests}
use Rattle.machine.proofs.Rests.{on-ok}
use Rattle.machine.proofs.subscriber.begin_step.Goals as goal

pub returns-else-is_err-clause-stands : goal.returns-else-is_err-clause-stands
returns-else-is_err-clause-stands c = grind (arith, nat_tests, on-ok)
