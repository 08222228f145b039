use Rattle.region_plan.specs.declared.covering.Covering.TheVariants.{Phased}
use Rattle.region_plan.proofs.laws.plan_means.Goals as goal

pub returns : goal.returns
returns c = λ network k. c.covered_plan_means.ensures (Phased k) network
