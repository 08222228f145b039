use Rattle.std.proofs.lemmas.Grind.{common_steps}
use Rattle.std.proofs.Common.{arith}
use Rattle.tracker_tests.proofs.scripts.take.Goals as goal

pub returns-in-actors : goal.returns-in-actors
returns-in-actors c = grind (arith, common_steps)

pub returns-in-hear : goal.returns-in-hear
returns-in-hear c = grind (arith, common_steps)

pub returns-in-held : goal.returns-in-held
returns-in-held c = grind (arith, common_steps)

pub returns-in-state : goal.returns-in-state
returns-in-state c = grind (arith, common_steps)

pub returns-in_default : goal.returns-in_default
returns-in_default c = grind (arith, common_steps)

pub take_heard-requires : goal.take_heard-requires
take_heard-requires c = grind (arith, common_steps)

pub take_heard-requires-text-step : goal.take_heard-requires-text-step
take_heard-requires-text-step c = grind (arith, common_steps)

pub take_held-requires-text-step : goal.take_held-requires-text-step
take_held-requires-text-step c = grind (arith, common_steps)
