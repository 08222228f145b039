use Rattle.std.proofs.Common.{◌∙◌, ap}
use Rattle.std.proofs.lemmas.Result.{IfOk-weaker}
use Rattle.report_text.specs.SummaryText.{summary_of}
use Rattle.track.proofs.trial.replay_summary.Goals as goal

pub returns : goal.returns
returns c =
    IfOk-weaker c.summary.result _ _ (λ text is. is ∙ ap summary_of c.in_ok-outcome.ensures.is) c.summary.ensures
