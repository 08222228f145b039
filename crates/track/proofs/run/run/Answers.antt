use Rattle.std.proofs.Common.{◌≡◌, ◌∙◌, sym, ap}
use Rattle.std.proofs.lemmas.Result.{IfOk-weaker}
use Rattle.directory.specs.Orders.{history_of}
use Rattle.directory.specs.Outcomes.{Outcome, result_of}
use Rattle.net_reader.specs.Seen.{seen_input}
use Rattle.region_plan.specs.Matched.{BoundsFinds}
use Rattle.report_text.specs.ReportText.{report_of}
use Rattle.runner.specs.Runs.{IsOutcomeOfRun}
use Rattle.scripts.specs.Scripts.{scripts_of}
use Rattle.trail_laws.specs.RightOutcomes.{TellInTurn}
use Rattle.track.specs.Results.{in_order, outcome_for, setting_for}
use Rattle.track.proofs.Answering.{plan-nodes, plan_of_graph}
use Rattle.track.proofs.Replaying.{report-says, sound-text}
use Rattle.track.proofs.run.run.Goals as goal
use Rattle.report_check.specs.Inputs.{plan_for}

pub returns : goal.returns
returns g c =
    let contents = seen_input c.args.input.now in
    let plan = c.in_ok-plan.plan in
    let same : plan ≡ plan_for contents = c.in_ok-plan.ensures.plan
    ∙ plan_of_graph c.plan_of_same_walks.ensures c.requires.valid c.requires.graph in
    let bounds : BoundsFinds (plan_for contents) = rw same at c.in_ok-plan.ensures.bounding in
    IfOk-weaker c.run_workers.result _ _ (λ made told.
    let its : IsOutcomeOfRun (setting_for contents) (scripts_of contents) (result_of made) = rw same at told in
    let turn : TellInTurn (outcome_for (in_order contents its.order)).calls =
    c.lines_are_in_turn.ensures (setting_for contents) (scripts_of contents)
    (history_of (setting_for contents) (scripts_of contents) its.order)
    (c.each_visit_is_next.ensures.order (setting_for contents) (scripts_of contents) its.order) in
    record {
      order = its.order;
      report = record {
        over = report-says its.order turn c.outcomes_are_right.ensures.lines c.outcomes_are_right.ensures.numbers
            c.plans_track.ensures c.plan_outcomes_are_near.ensures c.plan_outcomes_are_priced.ensures c.scripts_are_valid.ensures
            c.requires.valid
            (plan-nodes c.plan_means.ensures c.requires.valid) bounds (ap report_of its.is);
        sound = sound-text c.own_reports_are_sound.ensures its.order c.requires.valid (ap report_of its.is);
      };
      printed = sym (ap (λ (o : Outcome). o.order) its.is) ∙ its.printed;
      sound = sound-text c.own_reports_are_sound.ensures its.order c.requires.valid (ap report_of its.is);
    })
    c.run_workers.ensures.outcome
