use Rattle.std.proofs.lemmas.Bool.Decides.{nat_tests}
use Rattle.std.proofs.Common.{ℕ, Bool, List, arith, ◌∙◌, get_or}
use Rattle.std.specs.Prelude.{not, ◌==◌}
use Rattle.region_plan.specs.Plan.{PlanData, home}
use Rattle.handset.proofs.Lists.{first-next, first-here}
use Rattle.handset.proofs.levels.first_old.Goals as goal

abbrev moved : PlanData → List ℕ → ℕ → ℕ → Bool
moved plan addresses to level = not (home plan level (get_or addresses level 0) == home plan level to)

pub returns-then-home : goal.returns-then-home
returns-then-home c = grind (arith, moved, first-here)

pub loop-level-preserved : goal.loop-level-preserved
loop-level-preserved c =
    grind (arith, nat_tests, (c.if-home.false ∙ c.home-in-loop-level.ensures), moved, first-next)
