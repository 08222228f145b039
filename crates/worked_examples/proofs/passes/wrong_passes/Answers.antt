use Rattle.std.proofs.Common.{◌≡◌, ℕ, ap, arith, refl}
use Rattle.station.specs.declared.view.View.{View}
use Rattle.worked_examples.proofs.passes.wrong_passes.Goals as goal

pub returns-clause-order : goal.returns-clause-order
returns-clause-order c = λ tracker one other fresh zeroth.
    let low : ◌≡◌ {A = ℕ} other.view.low 1 = ap (λ (v : View). v.low) (fresh 1 other refl).view in
    omega (arith, low, zeroth)
