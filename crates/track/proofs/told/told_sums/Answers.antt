use Rattle.std.proofs.Common.{[], ◌∷◌, ap, refl, ◌∙◌}
use Rattle.directory.specs.Courses.{highest}
use Rattle.directory.specs.Histories.{tickets_from, words_after}
use Rattle.directory.specs.Outcomes.{step_lines}
use Rattle.directory.specs.Writes.{writes}
use Rattle.std.specs.Fmt.{digits}
use Rattle.census_text.specs.CensusText.{census_text_of}
use Rattle.directory.specs.Census.{census}
use Rattle.make_load.specs.Draws.{draw, generator_of}
use Rattle.move_cost.specs.Costs.{cost_lines, weight_of_steps}
use Rattle.move_cost.specs.CostText.{costs_text_of}
use Rattle.net_reader.specs.declared.said.Call.TheVariants.{Move}
use Rattle.scripts.specs.Scripts.{scripts_of}
use Rattle.track.specs.Examples.{line_input}
use Rattle.track.specs.Results.{history_over, plan_setting}
use Rattle.track.proofs.told.told_sums.Goals as goal

pub returns-clause-census : goal.returns-clause-census
unfolding digits tickets_from words_after highest writes step_lines
returns-clause-census c = λ text told.
    told.text_is
    ∙ ap (λ plan. census_text_of (census (plan_setting plan (line_input (Move 2 ∷ Move 3 ∷ [])))
    (history_over plan (line_input (Move 2 ∷ Move 3 ∷ [])))) 4) c.line_has_its_plan.ensures.plan

pub returns-clause-costs : goal.returns-clause-costs
unfolding digits highest writes weight_of_steps
returns-clause-costs c = λ text told.
    told.text_is
    ∙ ap (λ plan. costs_text_of (cost_lines (plan_setting plan (line_input (Move 2 ∷ [])))
    (scripts_of (line_input (Move 2 ∷ []))))) c.line_has_its_plan.ensures.plan

pub returns-clause-trial : goal.returns-clause-trial
unfolding digits draw generator_of tickets_from words_after highest writes step_lines
returns-clause-trial c = refl
