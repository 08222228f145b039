use Rattle.std.proofs.Common.{arith}
use Rattle.std.proofs.lemmas.List.{map-append}
use Rattle.net_reader.specs.CallLaws.{scripts-step}
use Rattle.net_reader.proofs.input.empty_scripts.Goals as goal

pub loop-preserved : goal.loop-preserved
loop-preserved c = grind (arith, map-append, scripts-step)
