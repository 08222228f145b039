use Rattle.std.proofs.Common.{[], ℕ, ap, ◌∙◌}
use Rattle.own_stretch.specs.StretchText.{stretch_text_of}
use Rattle.plan_laws.specs.Examples.{line_of_four, line_setting}
use Rattle.own_stretch.specs.OwnStretch.{any_stretch_of}
use Rattle.track.specs.Examples.{line_input}
use Rattle.track.specs.Results.{stretches_over}
use Rattle.track.proofs.told.told_stretches.Goals as goal

pub returns : goal.returns
returns c = λ text told.
    told.text_is
    ∙ ap (λ plan. stretch_text_of plan (stretches_over plan (line_input []))) c.line_has_its_plan.ensures.plan
    ∙ ap (λ (own : ℕ). stretch_text_of line_of_four (record { own = own; any = any_stretch_of line_setting }))
    c.line_stretches.ensures.own
    ∙ ap (λ (any : ℕ). stretch_text_of line_of_four (record { own = 14; any = any })) c.line_stretches.ensures.any
    ∙ c.line_of_stretches.ensures
