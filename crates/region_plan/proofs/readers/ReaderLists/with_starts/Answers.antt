use Rattle.std.proofs.lemmas.Grind.{common_steps}
use Rattle.std.proofs.Common.{arith}
use Rattle.region_plan.proofs.readers.ReaderLists.with_starts.Goals as goal

pub returns : goal.returns
returns c = grind (arith, common_steps)
