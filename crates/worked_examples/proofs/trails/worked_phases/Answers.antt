use Rattle.std.proofs.Common.{◌≡◌, ℕ, refl, arith}
use Rattle.entry_word.specs.declared.mark.PresenceMark.{PresenceMark}
use Rattle.entry_word.specs.declared.mark.PresenceMark.TheVariants.{Coming, Here}
use Rattle.directory.specs.Courses.{highest}
use Rattle.directory.specs.Puts.{steps_from}
use Rattle.directory.specs.Writes.{writes}
use Rattle.worked_examples.proofs.Unlike.{cons-no}
use Rattle.worked_examples.proofs.trails.worked_phases.Goals as goal

-- a Here is no Coming
here-no : (p q from : ℕ) → ◌≡◌ {A = PresenceMark} (Here p) (Coming q from) → ⊥
here-no p q from e = cc

-- Comings from two nodes are two marks
from-other : (p : ℕ) → ◌≡◌ {A = PresenceMark} (Coming p 3) (Coming p 1) → ⊥
from-other p e = cc

pub returns-clause-begun : goal.returns-clause-begun
unfolding writes highest steps_from
returns-clause-begun c = refl

pub returns-clause-its : goal.returns-clause-its
unfolding writes highest steps_from
returns-clause-its c = refl

pub returns-clause-comes : goal.returns-clause-comes
unfolding writes highest steps_from
returns-clause-comes c = refl

pub returns-clause-came : goal.returns-clause-came
unfolding writes highest steps_from
returns-clause-came c = λ comes. here-no 1 1 3 comes

pub returns-clause-unbegun : goal.returns-clause-unbegun
unfolding writes highest steps_from
returns-clause-unbegun c = λ begun. let e : ◌≡◌ {A = ℕ} 0 1 = begun in omega (arith, e)

pub returns-clause-committed : goal.returns-clause-committed
unfolding writes highest steps_from
returns-clause-committed c = λ begun. let e : ◌≡◌ {A = ℕ} 1 2 = begun in omega (arith, e)

pub returns-clause-passing : goal.returns-clause-passing
unfolding writes highest steps_from
returns-clause-passing c = refl

pub returns-clause-passing_elsewhere : goal.returns-clause-passing_elsewhere
unfolding writes highest steps_from
returns-clause-passing_elsewhere c = λ passing. from-other 1 passing

pub returns-clause-early : goal.returns-clause-early
unfolding writes highest steps_from
returns-clause-early c = λ passing. here-no 0 0 3 passing

pub returns-clause-confirmed : goal.returns-clause-confirmed
unfolding writes highest steps_from
returns-clause-confirmed c = λ passing. here-no 1 1 3 passing

pub returns-clause-settled : goal.returns-clause-settled
unfolding writes highest steps_from
returns-clause-settled c = (refl, λ from passing. here-no 1 1 from passing)

pub returns-clause-unsettled : goal.returns-clause-unsettled
unfolding writes highest steps_from
returns-clause-unsettled c = λ settled. settled.1 3 refl

pub returns-clause-waiting : goal.returns-clause-waiting
unfolding writes highest steps_from
returns-clause-waiting c = λ settled. let e : ◌≡◌ {A = ℕ} 1 0 = settled.0 in omega (arith, e)

pub returns-clause-current : goal.returns-clause-current
unfolding writes highest steps_from
returns-clause-current c = refl

pub returns-clause-kept : goal.returns-clause-kept
unfolding writes highest steps_from
returns-clause-kept c = refl

pub returns-clause-old : goal.returns-clause-old
unfolding writes highest steps_from
returns-clause-old c = λ current. let e : ◌≡◌ {A = ℕ} 0 1 = current in omega (arith, e)

pub returns-clause-rest : goal.returns-clause-rest
unfolding writes highest steps_from
returns-clause-rest c = refl

pub returns-clause-unrested : goal.returns-clause-unrested
unfolding writes highest steps_from
returns-clause-unrested c = λ rests. cons-no _ _ rests
