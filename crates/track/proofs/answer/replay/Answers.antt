use Rattle.std.proofs.Common.{◌≡◌, ◌≤◌, ap, subst, ◌∙◌, arith}
use Rattle.std.proofs.lemmas.Result.{IfOk-weaker}
use Rattle.directory.specs.Outcomes.{Outcome, result_of}
use Rattle.trail_laws.specs.RightOutcomes.{TellInTurn}
use Rattle.net_reader.specs.Seen.{seen_input}
use Rattle.report_text.specs.ReportText.{report_of}
use Rattle.region_plan.specs.Matched.{BoundsFinds}
use Rattle.region_plan.specs.Plan.{PlanData}
use Rattle.region_plan.specs.Coverings.{trade_off_of}
use Rattle.region_plan.specs.Regions.{covered_plan}
use Rattle.track.specs.Results.{outcome_over}
use Rattle.track.proofs.Answering.{covered-nodes, covered_of_graph}
use Rattle.track.proofs.Replaying.{report-says}
use Rattle.track.proofs.answer.replay.Goals as goal
use Rattle.report_check.specs.Inputs.{network_of}

pub returns : goal.returns
returns c =
    let contents = seen_input c.args.input.now in
    let plan = covered_plan c.args.covering (network_of contents) in
    let low : 1 ≤ trade_off_of c.args.covering = omega (arith, c.requires.trade_off, c.requires.valid.k_some) in
    let same : c.in_ok-plan.plan ≡ plan = c.in_ok-plan.ensures.plan
    ∙ covered_of_graph c.covered_plan_of_same_walks.ensures c.args.covering c.requires.valid c.requires.graph low in
    let bounds : BoundsFinds plan = subst BoundsFinds same c.in_ok-plan.ensures.bounding in
    let now = ap (λ (p : PlanData). outcome_over p contents) same in
    record {
      is = IfOk-weaker c.replay_over.result _ _ (λ outcome told. told.0 ∙ now) c.replay_over.ensures;
      report = IfOk-weaker c.replay_over.result _ _ (λ outcome told.
          let is : result_of outcome ≡ outcome_over plan contents = told.0 ∙ now in
          let turn = subst (λ (o : Outcome). TellInTurn o.calls) is told.1 in
          report-says contents.order turn c.outcomes_are_right.ensures.lines c.outcomes_are_right.ensures.numbers
          c.plans_track.ensures c.plan_outcomes_are_near.ensures c.plan_outcomes_are_priced.ensures c.scripts_are_valid.ensures
          c.requires.valid
          (covered-nodes c.covered_plan_means.ensures c.args.covering c.requires.valid low) bounds (ap report_of is))
          c.replay_over.ensures;
    }
