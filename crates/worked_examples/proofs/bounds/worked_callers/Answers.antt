use Rattle.std.proofs.Common.{◌≤◌, ℕ, [], ◌∷◌, ◌∙◌, subst, arith}
use Rattle.directory.specs.Courses.{move_to}
use Rattle.directory.specs.Orders.{Scripts, caller_in}
use Rattle.plan_laws.specs.Examples.{line_scripts, line_setting}
use Rattle.worked_examples.specs.Examples.{find_from}
use Rattle.worked_examples.proofs.bounds.worked_callers.Goals as goal

-- the move, and the find that may meet it
both : Scripts
both = line_scripts (move_to 2 ∷ []) (find_from 2 ∷ [])

pub returns-clause-next : goal.returns-clause-next
unfolding both
returns-clause-next c = λ law history played four. (law line_setting both history 1 (omega arith) played).0 ∙ four

pub returns-clause-first : goal.returns-clause-first
unfolding both
returns-clause-first c = λ law history played four.
    let counted = law line_setting both history 1 (omega arith) played in
    subst (λ (next : ℕ). (caller_in line_setting both history 1).first ≤ next) (counted.0 ∙ four) counted.1
