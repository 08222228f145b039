use Rattle.std.proofs.Common.{◌≡◌}
use Rattle.std.proofs.lemmas.Result.{IfOk-weaker}
use Rattle.region_plan.specs.Matched.{HasSmallSum}
use Rattle.region_plan.specs.Regions.{mean_plan}
use Rattle.region_plan.proofs.plan.Plan.build_mean.Goals as goal

pub returns-clause-small_sum : goal.returns-clause-small_sum
returns-clause-small_sum c =
    IfOk-weaker c.build_by.result (λ plan. plan ≡ mean_plan c.args.graph.now c.args.k) HasSmallSum (λ plan is.
    rw is (c.mean_plan_is_small.ensures c.args.graph.now c.args.k c.graph_is_sound.ensures c.requires.low))
    c.build_by.ensures.plan
