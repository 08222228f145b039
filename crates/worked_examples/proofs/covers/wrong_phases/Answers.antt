use Rattle.std.proofs.Common.{◌≡◌, ℕ, [], ◌∷◌, false, refl, sym, arith}
use Rattle.std.proofs.lemmas.Bool.{false≢true}
use Rattle.std.proofs.lemmas.List.Elements.{All-nil, All-cons}
use Rattle.coarse_cover.specs.declared.cover.Cluster.{Cluster}
use Rattle.node_set.specs.Ascending.{share}
use Rattle.worked_examples.specs.Covers.{cluster_with}
use Rattle.worked_examples.proofs.covers.wrong_phases.Goals as goal

pub returns-clause-around : goal.returns-clause-around
returns-clause-around c = λ apart. false≢true (sym (apart.0 1 (cluster_with 0 []) (omega arith) refl))

pub returns-clause-behind : goal.returns-clause-behind
returns-clause-behind c = λ apart. false≢true (sym (apart.1.0 0 (cluster_with 0 []) (omega arith) refl))

-- another cluster of phase 0 shares no node with the first
abbrev IsApart : Cluster → Type 0
IsApart d = d.phase ≡ 0 → share (0 ∷ 1 ∷ []) d.members.members ≡ false

later : ◌≡◌ {A = ℕ} 1 0 → share (0 ∷ 1 ∷ []) (1 ∷ 2 ∷ []) ≡ false
later same = absurd (omega (arith, same))

pub returns-clause-other : goal.returns-clause-other
returns-clause-other c = (
  All-cons IsApart (cluster_with 1 (1 ∷ 2 ∷ [])) [] later (All-nil IsApart),
  (All-nil (λ (d : Cluster). d.phase ≡ 1 → share (1 ∷ 2 ∷ []) d.members.members ≡ false), tt),
)
