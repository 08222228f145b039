use Rattle.std.proofs.Common.{◌≡◌, ◌≢◌, ◌<◌, ℕ, zero, suc, [], ◌∷◌, List, Option, Some, None, refl, subst, arith}
use Rattle.net_graph.specs.Trees.{IsParent, LeadsTo, at_node}
use Rattle.worked_examples.specs.Trees.{square, square_weights}
use Rattle.worked_examples.proofs.Square.{leads-0-1, leads-0-2, leads-1-3, no-lead, same}
use Rattle.worked_examples.proofs.Unlike.{none-no, some-no}
use Rattle.worked_examples.proofs.trees.worked_parents.Goals as goal

-- the parents
abbrev tree : List (Option ℕ)
tree = None ∷ Some 0 ∷ Some 0 ∷ Some 1 ∷ []

-- what a parent of a node is
abbrev Stands : ℕ → ℕ → Type 0
Stands v p = (v ≢ 0) × (p < 4) × IsParent square.edges square_weights v p

below-one : (q : ℕ) → q < 1 → LeadsTo square.edges square_weights q 3 → ⊥
below-one zero low leads = no-lead leads
below-one (suc q) low leads = omega (arith, low)

at-1 : Stands 1 0
at-1 = (λ e. omega (arith, e), omega arith, record { leads = leads-0-1; first = λ q low leads. omega (arith, low) })

at-2 : Stands 2 0
at-2 = (λ e. omega (arith, e), omega arith, record { leads = leads-0-2; first = λ q low leads. omega (arith, low) })

at-3 : Stands 3 1
at-3 = (λ e. omega (arith, e), omega arith, record { leads = leads-1-3; first = below-one })

each : (v p : ℕ) → v < 4 → at_node tree v ≡ Some p → Stands v p
each zero p low is = absurd (none-no p is)
each (suc zero) p low is = subst (Stands 1) (same 0 p is) at-1
each (suc (suc zero)) p low is = subst (Stands 2) (same 0 p is) at-2
each (suc (suc (suc zero))) p low is = subst (Stands 3) (same 1 p is) at-3
each (suc (suc (suc (suc v)))) p low is = absurd (omega (arith, low))

rest : (v w : ℕ) → v < 4 → at_node tree v ≡ None → at_node square_weights v ≡ Some w → v ≡ 0
rest zero w low none is = refl
rest (suc zero) w low none is = absurd (some-no 0 none)
rest (suc (suc zero)) w low none is = absurd (some-no 0 none)
rest (suc (suc (suc zero))) w low none is = absurd (some-no 1 none)
rest (suc (suc (suc (suc v)))) w low none is = absurd (omega (arith, low))

pub returns : goal.returns
returns c = record { count = refl; some = each; none = rest }
