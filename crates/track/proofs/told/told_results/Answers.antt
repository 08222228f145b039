use Rattle.std.proofs.Common.{[], ◌∷◌, ap, ◌∙◌}
use Rattle.directory.specs.Courses.{highest}
use Rattle.directory.specs.Histories.{tickets_from, words_after}
use Rattle.directory.specs.Outcomes.{step_lines}
use Rattle.directory.specs.Writes.{writes}
use Rattle.net_reader.specs.declared.said.Call.TheVariants.{Move}
use Rattle.json_form.specs.Reports.{report_json_of}
use Rattle.report_text.specs.PlanText.{plan_text_of}
use Rattle.report_text.specs.ReportText.{report_of}
use Rattle.track.specs.Examples.{line_input}
use Rattle.track.specs.Results.{outcome_over}
use Rattle.track.proofs.told.told_results.Goals as goal

pub returns-clause-cover : goal.returns-clause-cover
returns-clause-cover c = λ text told. told.text_is ∙ ap plan_text_of c.line_has_its_plan.ensures.plan

pub returns-clause-mean_cover : goal.returns-clause-mean_cover
returns-clause-mean_cover c = λ text told.
    told.text_is ∙ ap plan_text_of c.line_has_its_mean_plan.ensures.plan

pub returns-clause-replay : goal.returns-clause-replay
unfolding tickets_from words_after highest writes step_lines
returns-clause-replay c = λ text told.
    told.over.text_is
    ∙ ap (λ plan. report_of (outcome_over plan (line_input (Move 2 ∷ [])))) c.line_has_its_plan.ensures.plan

pub returns-clause-mean_replay : goal.returns-clause-mean_replay
unfolding tickets_from words_after highest writes step_lines
returns-clause-mean_replay c = λ text told.
    told.text_is
    ∙ ap (λ plan. report_of (outcome_over plan (line_input (Move 2 ∷ []))))
    c.line_has_its_mean_plan.ensures.plan

pub returns-clause-replay_json : goal.returns-clause-replay_json
unfolding tickets_from words_after highest writes step_lines
returns-clause-replay_json c = λ text told.
    told.text_is
    ∙ ap (λ plan. report_json_of (outcome_over plan (line_input (Move 2 ∷ []))))
    c.line_has_its_plan.ensures.plan
