use Rattle.std.proofs.Common.{◌≡◌}
use Rattle.std.proofs.lemmas.Result.{IfOk-weaker}
use Rattle.region_plan.specs.Matched.{HasFewReaders}
use Rattle.region_plan.specs.Regions.{plan_of}
use Rattle.region_plan.proofs.plan.Plan.build.Goals as goal

pub returns-clause-sparse : goal.returns-clause-sparse
returns-clause-sparse c =
    IfOk-weaker c.build_by.result (λ plan. plan ≡ plan_of c.args.graph.now c.args.k) HasFewReaders (λ plan is.
    rw is (c.plan_is_sparse.ensures c.args.graph.now c.args.k c.graph_is_sound.ensures c.requires.low))
    c.build_by.ensures.plan
