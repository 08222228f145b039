use Rattle.std.proofs.lemmas.Bool.Decides.{nat_tests}
use Rattle.std.proofs.Common.{arith}
use Rattle.region_plan.proofs.Spreading.{exponent_is}
use Rattle.region_plan.proofs.spread.exponent_of.Goals as goal

pub returns-else-distance-eq0-clause-exact : goal.returns-else-distance-eq0-clause-exact
returns-else-distance-eq0-clause-exact c = grind (arith, nat_tests, exponent_is)
