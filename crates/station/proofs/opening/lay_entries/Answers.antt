use Rattle.std.proofs.lemmas.Grind.{common_steps}
use Rattle.std.proofs.Common.{arith}
use Rattle.std.proofs.lemmas.List.Sums.{sum_by_more}
use Rattle.station.proofs.opening.lay_entries.Goals as goal

pub loop-level-preserved : goal.loop-level-preserved
loop-level-preserved c = grind (arith, sum_by_more)

pub returns : goal.returns
returns c = grind (arith, common_steps)

pub returns-in_err-lay_level : goal.returns-in_err-lay_level
returns-in_err-lay_level c = grind (arith, common_steps)
