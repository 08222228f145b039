use Rattle.std.proofs.Common.{rules}
use Rattle.region_plan.proofs.Meaning.{bounds}
use Rattle.region_plan.proofs.laws.covered_plan_is_bounding.Goals as goal

pub returns : goal.returns
returns c = search (rules, bounds)
