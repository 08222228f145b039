use Rattle.std.proofs.Common.{ℕ, zero, suc, ◌<◌, ◌≤◌, subst, arith}
use Rattle.distances.specs.Table.{dist}
use Rattle.worked_examples.specs.Plans.{two_apart}
use Rattle.worked_examples.proofs.plans.wrong_matches.Goals as goal

-- no two nodes are farther apart
far : (u v : ℕ) → u < 2 → v < 2 → dist two_apart u v ≤ 4
far zero zero a b = let e : 0 ≤ 4 = omega arith in e
far zero (suc zero) a b = let e : 4 ≤ 4 = omega arith in e
far (suc zero) zero a b = let e : 4 ≤ 4 = omega arith in e
far (suc zero) (suc zero) a b = let e : 0 ≤ 4 = omega arith in e
far (suc (suc u)) v a b = absurd (omega (arith, a))
far u (suc (suc v)) a b = absurd (omega (arith, b))

pub returns-clause-first : goal.returns-clause-first
returns-clause-first c = λ plan matched two. omega (arith, matched.first, two)

pub returns-clause-start : goal.returns-clause-start
returns-clause-start c = λ plan matched known one.
    omega (arith, matched.starts 0 0 (omega (arith, matched.some)) known, one)

pub returns-clause-low_top : goal.returns-clause-low_top
returns-clause-low_top c = λ top.
    let reached : 4 ≤ top.diameter = top.greatest.greatest 0 1 (omega arith) (omega arith) in
    let enough : top.diameter ≤ 2 = top.enough in omega (arith, reached, enough)

pub returns-clause-high_top : goal.returns-clause-high_top
returns-clause-high_top c = λ top.
    let at = top.greatest.attained in
    let most : top.diameter ≤ 4 = subst (λ d. d ≤ 4) at.far (far at.from at.to at.from_below at.to_below) in
    let above : 4 < top.diameter = top.least 2 (omega arith) in omega (arith, most, above)
