-- Numbers that may be missing, and the lesser of two.
use Rattle.std.proofs.Common.{◌≡◌, ◌⊎◌, ℕ, ◌≤◌, Option, None, Some, refl, inl, inr, arith}
use Rattle.net_graph.specs.Least.{IsAtMost, lesser_of}
use Rattle.net_graph.specs.WalkLaws.{min-cases}

pub at_most_trans : (c : Option ℕ) (x y : ℕ) → IsAtMost c x → x ≤ y → IsAtMost c y
at_most_trans None x y h le = h
at_most_trans (Some z) x y h le = omega arith

pub at_most_some : (c : Option ℕ) (x : ℕ) → IsAtMost c x → (y : ℕ) × (c ≡ Some y) × (y ≤ x)
at_most_some None x h = absurd h
at_most_some (Some y) x h = (y, refl, h)

pub lowered_light : (c : Option ℕ) (w : ℕ) → IsAtMost (lesser_of c w) w
lowered_light None w = omega arith
lowered_light (Some x) w = omega arith

pub lowered_keeps : (c : Option ℕ) (w y : ℕ) → IsAtMost c y → IsAtMost (lesser_of c w) y
lowered_keeps None w y h = absurd h
lowered_keeps (Some x) w y h = omega arith

pub lowered_cause : (c : Option ℕ) (w : ℕ) {x : ℕ} → lesser_of c w ≡ Some x → (c ≡ Some x) ⊎ (w ≡ x)
lowered_cause None w h = inr (cc)
lowered_cause (Some y) w h = elim (min-cases y w) [ inl first ↦ inl (cc) | inr second ↦ inr (cc) ]
