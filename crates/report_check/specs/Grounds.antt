-- What the code judges a report by is what the plan and the input say.
-- Key law: `check` gives the verdict by it.
use Rattle.std.specs.Prelude.{◌≡◌, ◌≤◌, ◌^◌}
use Rattle.region_plan.specs.Plan.{PlanData, nodes_of}
use Rattle.region_plan.specs.Measures.{stretch_of}
use Rattle.report_check.specs.declared.judge.Ground.{Ground}

-- the numbers are those of this plan
pub record IsGround (plan : PlanData) (ground : Ground) : Type 0 where
  pub nodes : ground.nodes ≡ nodes_of plan
  pub stretch : ground.stretch ≡ stretch_of plan
  pub distances : ground.distances.now ≡ plan.distances

-- the numbers fit each other
pub record IsGroundAlone (ground : Ground) : Type 0 where
  pub nodes : ground.nodes ≡ ground.distances.now.nodes
  pub stretch : ground.stretch ≤ 2 ^ 20
