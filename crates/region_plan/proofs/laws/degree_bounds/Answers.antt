use Rattle.region_plan.proofs.Measuring.{degree_bounds}
use Rattle.region_plan.proofs.laws.degree_bounds.Goals as goal

pub returns : goal.returns
returns c = degree_bounds
