use Rattle.region_plan.specs.declared.covering.Covering.TheVariants.{Phased}
use Rattle.region_plan.proofs.laws.plan_is_bounding.Goals as goal

pub returns : goal.returns
returns c = λ network k. c.covered_plan_is_bounding.ensures (Phased k) network
