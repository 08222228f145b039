use Rattle.std.proofs.Common.{◌∙◌, ap}
use Rattle.std.proofs.lemmas.Result.{IfOk-weaker}
use Rattle.move_cost.specs.CostText.{costs_text_of}
use Rattle.track.proofs.cost.cost_text_over.Goals as goal

pub returns : goal.returns
returns c =
    IfOk-weaker c.costs_text.result _ _
    (λ text is. is ∙ ap costs_text_of (c.deref.ensures.value ∙ c.in_ok-lines.ensures.lines)) c.costs_text.ensures
