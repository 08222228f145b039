use Rattle.std.proofs.lemmas.Grind.{common_steps}
use Rattle.std.proofs.Common.{arith}
use Rattle.tracker_tests.proofs.scripts.take_held.Goals as goal

pub returns : goal.returns
returns c = grind (arith, common_steps)

pub take_free-requires-text-step : goal.take_free-requires-text-step
take_free-requires-text-step c = grind (arith, common_steps)
