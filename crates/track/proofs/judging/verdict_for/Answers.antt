use Rattle.std.proofs.Common.{◌≡◌, ◌∙◌, ap}
use Rattle.std.proofs.lemmas.Result.{IfOk-weaker}
use Rattle.net_reader.specs.Seen.{seen_input}
use Rattle.region_plan.specs.Plan.{PlanData}
use Rattle.report_check.specs.Verdicts.{verdict_of}
use Rattle.track.proofs.Answering.{plan_of_graph}
use Rattle.track.proofs.judging.verdict_for.Goals as goal
use Rattle.report_check.specs.Inputs.{plan_for}

pub returns : goal.returns
returns c =
    let contents = seen_input c.args.input.now in
    let plan = c.in_ok-plan.plan in
    let report = c.args.report.now in
    let same : plan ≡ plan_for contents = c.in_ok-plan.ensures.plan
    ∙ plan_of_graph c.plan_of_same_walks.ensures c.requires.valid c.requires.graph in
    IfOk-weaker c.check.result _ _ (λ verdict is. is ∙ ap (λ (p : PlanData). verdict_of p contents report) same)
    c.check.ensures
