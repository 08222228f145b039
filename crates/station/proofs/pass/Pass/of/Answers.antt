use Rattle.std.proofs.Common.{arith, ◌≡◌, refl, ℕ, []}
use Rattle.directory.specs.Histories.{tickets, tickets_from}
use Rattle.station.proofs.pass.Pass.of.Goals as goal

none : (actor : ℕ) → tickets actor [] ≡ []
unfolding tickets_from
none actor = refl

pub invariant_of-result : goal.invariant_of-result
invariant_of-result c = grind (arith, none)
