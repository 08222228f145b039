use Rattle.std.proofs.Common.{◌≡◌, ℕ, List, [], ◌∷◌, ap, inl, refl, arith}
use Rattle.std.specs.Prelude.{slice_index}
use Rattle.std.proofs.lemmas.Bool.{false≢true}
use Rattle.cluster_tree.specs.Tree.{within}
use Rattle.worked_examples.proofs.Apart.{stays}
use Rattle.worked_examples.proofs.covers.wrong_tree_faults.Goals as goal

pub returns-clause-later : goal.returns-clause-later
returns-clause-later c = λ fault.
    let at = fault.first 2 (omega arith) refl in
    let e = stays (within (0 ∷ 1 ∷ 2 ∷ 3 ∷ [])) 0 2 at.steps (omega arith) at.walk in omega (arith, e)

pub returns-clause-other : goal.returns-clause-other
returns-clause-other c = λ fault. false≢true fault.member

pub returns-clause-reached : goal.returns-clause-reached
returns-clause-reached c = λ fault.
    fault.unreached (record { node = 1; weight = 1 } ∷ []) (refl, inl (0, omega arith, refl), (refl, refl))

pub returns-clause-over : goal.returns-clause-over
returns-clause-over c = λ stands.
    let e : ◌≡◌ {A = ℕ} 2 1 = ap (λ (l : List ℕ). slice_index l 0) stands.1 in omega (arith, e)

pub returns-clause-before : goal.returns-clause-before
returns-clause-before c = λ stands.
    let e : ◌≡◌ {A = ℕ} 2 1 = ap (λ (l : List ℕ). slice_index l 0) stands.1 in omega (arith, e)
