use Rattle.std.proofs.Common.{ap}
use Rattle.std.proofs.lemmas.Result.{IfOk-weaker}
use Rattle.net_reader.specs.Seen.{seen_input}
use Rattle.region_plan.specs.declared.covering.Covering.TheVariants.{Mean}
use Rattle.report_text.specs.PlanText.{plan_text_of}
use Rattle.track.proofs.answer.mean_cover.Goals as goal
use Rattle.report_check.specs.InputLaws.{network-valid}
use Rattle.report_check.specs.Inputs.{network_of}

pub returns : goal.returns
returns c =
    let contents = seen_input c.args.input.now in
    let sound = network-valid c.requires.valid in
    IfOk-weaker c.cover.result _ _ (λ plan is. record {
      text_is = ap plan_text_of is;
      reach_is = (c.covered_plan_means.ensures (Mean contents.k) (network_of contents) sound
          c.requires.valid.k_some).reach;
      bounding = c.covered_plan_is_bounding.ensures (Mean contents.k) (network_of contents) sound
          c.requires.valid.k_some;
      small_sum = c.mean_plan_is_small.ensures (network_of contents) contents.k sound c.requires.valid.k_some;
    }) c.cover.ensures
