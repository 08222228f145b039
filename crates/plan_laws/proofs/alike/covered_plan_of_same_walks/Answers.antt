use Rattle.plan_laws.proofs.WalkedAlike.{same_plans}
use Rattle.plan_laws.proofs.alike.covered_plan_of_same_walks.Goals as goal

pub returns : goal.returns
returns c = same_plans c.covered_plan_means.ensures c.covered_plan_is_one.ensures
