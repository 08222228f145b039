use Rattle.std.proofs.Common.{refl, [], ◌∷◌}
use Rattle.directory.specs.Courses.{highest}
use Rattle.directory.specs.Histories.{tickets_from, words_after}
use Rattle.directory.specs.Outcomes.{step_lines}
use Rattle.directory.specs.Puts.{steps_from}
use Rattle.directory.specs.Writes.{writes}
use Rattle.plan_laws.specs.Examples.{line_of_four}
use Rattle.busy_finds.specs.Levels.{reaching}
use Rattle.busy_finds.proofs.LineOwn.{line-own}
use Rattle.busy_finds.proofs.examples.line_price.Goals as goal

pub returns : goal.returns
unfolding reaching tickets_from words_after highest writes step_lines steps_from
returns c = record {
  half = c.plans_gather_half.ensures line_of_four (3 ∷ []) c.line_has_its_plan.ensures.bounding;
  travels = refl;
  weighs = refl;
  reaches = refl;
  gathers = refl;
  costs = refl;
  doubles = refl;
  level = refl;
  dearest = refl;
  own = line-own;
  attained = refl;
}
