use Rattle.std.proofs.Common.{◌≡◌, ℕ, ◌≤◌, ◌^◌, ◌∙◌, ap, arith, subst}
use Rattle.std.proofs.lemmas.Result.{IfOk-weaker}
use Rattle.net_reader.specs.Seen.{seen_input}
use Rattle.own_stretch.specs.OwnStretch.{any_stretch_of, own_stretch_of}
use Rattle.own_stretch.specs.StretchText.{stretch_text_of}
use Rattle.region_plan.specs.Coverings.{trade_off_of}
use Rattle.region_plan.specs.Matched.{BoundsFinds}
use Rattle.region_plan.specs.Plan.{nodes_of, PlanData}
use Rattle.region_plan.specs.Regions.{covered_plan}
use Rattle.region_plan.specs.Settings.{setting_of}
use Rattle.report_check.specs.Inputs.{network_of}
use Rattle.track.specs.Results.{plan_setting}
use Rattle.track.proofs.Answering.{covered-nodes, covered_of_graph}
use Rattle.track.proofs.stretch.stretches.Goals as goal

pub returns : goal.returns
returns c =
    let contents = seen_input c.args.input.now in
    let plan = covered_plan c.args.covering (network_of contents) in
    let low : 1 ≤ trade_off_of c.args.covering = omega (arith, c.requires.trade_off, c.requires.valid.k_some) in
    let same : c.in_ok-plan.plan ≡ plan = c.in_ok-plan.ensures.plan
    ∙ covered_of_graph c.covered_plan_of_same_walks.ensures c.args.covering c.requires.valid c.requires.graph low in
    let bounds : BoundsFinds plan = subst BoundsFinds same c.in_ok-plan.ensures.bounding in
    let nodes = covered-nodes c.covered_plan_means.ensures c.args.covering c.requires.valid low in
    let few : nodes_of plan ≤ 2 ^ 16 = omega (arith, nodes, c.requires.valid.few) in
    let found = c.in_ok-found.found in
    let own : found.own ≡ own_stretch_of (plan_setting plan contents) = c.in_ok-found.ensures.own contents.homes
    ∙ ap (λ (p : PlanData). own_stretch_of (setting_of p contents.homes)) same in
    let any : found.any ≡ any_stretch_of (plan_setting plan contents) = c.in_ok-found.ensures.any contents.homes
    ∙ ap (λ (p : PlanData). any_stretch_of (setting_of p contents.homes)) same in
    IfOk-weaker c.stretch_text.result _ _ (λ text is. record {
      text_is = is ∙ ap (λ (p : PlanData). stretch_text_of p found) same
          ∙ ap (λ (number : ℕ). stretch_text_of plan (record { own = number; any = found.any })) own
          ∙ ap (λ (number : ℕ). stretch_text_of plan
          (record { own = own_stretch_of (plan_setting plan contents); any = number })) any;
      bound = c.plan_finds_keep_own_stretch.ensures plan contents.homes few bounds;
    }) c.stretch_text.ensures
