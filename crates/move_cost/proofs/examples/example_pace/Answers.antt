use Rattle.std.proofs.Common.{refl, [], ◌∷◌}
use Rattle.plan_laws.specs.Examples.{line_of_four}
use Rattle.move_cost.proofs.examples.example_pace.Goals as goal

pub returns-clause-paced : goal.returns-clause-paced
returns-clause-paced c = c.plans_are_paced.ensures line_of_four (3 ∷ []) c.line_has_its_plan.ensures.bounding

pub returns-clause-rate : goal.returns-clause-rate
returns-clause-rate c = refl
