use Rattle.region_plan.specs.declared.covering.Covering.TheVariants.{Phased}
use Rattle.plan_laws.proofs.alike.plan_of_same_walks.Goals as goal

pub returns : goal.returns
returns c = λ one other k. c.covered_plan_of_same_walks.ensures (Phased k) one other
