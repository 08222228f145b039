use Rattle.std.proofs.Common.{arith}
use Rattle.std.proofs.lemmas.List.{get_or_default}
use Rattle.std.proofs.lemmas.Nat.{mul-add-lt}
use Rattle.distances.proofs.distances.Distances.between.Goals as goal

pub returns : goal.returns
returns c = grind (arith, mul-add-lt, get_or_default)
