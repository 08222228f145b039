use Rattle.std.proofs.Common.{ap}
use Rattle.std.proofs.lemmas.Result.{IfOk-weaker}
use Rattle.net_reader.specs.Seen.{seen_input}
use Rattle.region_plan.specs.declared.covering.Covering.TheVariants.{Phased}
use Rattle.report_text.specs.PlanText.{plan_text_of}
use Rattle.track.proofs.answer.phased_cover.Goals as goal
use Rattle.report_check.specs.InputLaws.{network-valid}
use Rattle.report_check.specs.Inputs.{network_of}

pub returns : goal.returns
returns c =
    let contents = seen_input c.args.input.now in
    let sound = network-valid c.requires.valid in
    IfOk-weaker c.cover.result _ _ (λ plan is. record {
      text_is = ap plan_text_of is;
      bounding = c.covered_plan_is_bounding.ensures (Phased contents.k) (network_of contents) sound
          c.requires.valid.k_some;
      sparse = c.plan_is_sparse.ensures (network_of contents) contents.k sound c.requires.valid.k_some;
    }) c.cover.ensures
