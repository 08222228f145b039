use Rattle.std.proofs.Common.{◌≡◌, ◌∙◌, ap, refl}
use Rattle.std.proofs.lemmas.Result.{IfOk-weaker}
use Rattle.directory.specs.Orders.{AreValid}
use Rattle.net_reader.specs.Seen.{seen_input}
use Rattle.region_plan.specs.Plan.{PlanData}
use Rattle.region_plan.specs.Settings.{setting_of}
use Rattle.scripts.specs.Scripts.{scripts_of}
use Rattle.move_cost.specs.Costs.{cost_lines}
use Rattle.move_cost.specs.CostText.{costs_text_of}
use Rattle.track.specs.Results.{setting_for}
use Rattle.track.proofs.Answering.{plan-nodes, plan_of_graph}
use Rattle.track.proofs.cost.cost_text.Goals as goal
use Rattle.report_check.specs.InputLaws.{network-valid}
use Rattle.report_check.specs.Inputs.{network_of, plan_for}

pub returns : goal.returns
returns c =
    let contents = seen_input c.args.input.now in
    let plan = c.in_ok-plan.plan in
    let same : plan ≡ plan_for contents = c.in_ok-plan.ensures.plan
    ∙ plan_of_graph c.plan_of_same_walks.ensures c.requires.valid c.requires.graph in
    let scripts : AreValid (setting_for contents) (scripts_of contents) =
    c.scripts_are_valid.ensures contents (setting_for contents) c.requires.valid (record {
      nodes = plan-nodes c.plan_means.ensures c.requires.valid;
      starts = refl;
    }) in
    IfOk-weaker c.cost_text_over.result _ _ (λ text is. record {
      text_is = is ∙ ap (λ (p : PlanData). costs_text_of (cost_lines (setting_of p contents.homes)
          (scripts_of contents))) same;
      within = c.network_lines_are_within_rate.ensures (network_of contents) contents.k contents.homes
          (scripts_of contents) (network-valid c.requires.valid) c.requires.valid.k_some scripts;
    }) c.cost_text_over.ensures
