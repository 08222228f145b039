use Rattle.std.proofs.Common.{◌≡◌, ◌∙◌, ℕ, suc, ◌*◌, List, None, ap, arith, map, refl, subst, sym}
use Rattle.std.specs.Prelude.{sum_by}
use Rattle.directory.specs.Courses.{next_move}
use Rattle.directory.specs.Writes.{entry_at, numbers_from, old_home}
use Rattle.move_cost.specs.Costs.{erased_levels}
use Rattle.move_cost.proofs.examples.example_moves.Goals as goal

pub returns-clause-weighs : goal.returns-clause-weighs
returns-clause-weighs c law setting course node far renewed near erased =
    let all : ℕ → ℕ = λ level. 2 * setting.inside level (setting.home level node) node in
    let old : ℕ → ℕ = λ level. 2 * setting.distance node (setting.leader level (old_home setting course level)) in
    let lowest : sum_by all (numbers_from 0 (suc 0)) ≡ 4 = omega (arith, near) in
    let renewals : sum_by all (numbers_from 0 (suc (next_move setting course node).renewed)) ≡ 4 =
    subst (λ (top : ℕ). sum_by all (numbers_from 0 (suc top)) ≡ 4) (sym renewed) lowest in
    let erasures : sum_by old (erased_levels setting course (next_move setting course node)) ≡ 0 =
    subst (λ (levels : List ℕ). sum_by old levels ≡ 0) (sym erased) refl in
    omega (arith, law setting course node, far, renewals, erasures)

pub returns-clause-purges : goal.returns-clause-purges
returns-clause-purges c law setting course node two = law setting course node ∙ two

pub returns-clause-none : goal.returns-clause-none
returns-clause-none c law setting course node is =
    law setting course node
    ∙ ap (map (λ level. entry_at level (old_home setting course level) None)) is

pub returns-clause-one : goal.returns-clause-one
returns-clause-one c law setting course node level is =
    law setting course node
    ∙ ap (map (λ level. entry_at level (old_home setting course level) None)) is
