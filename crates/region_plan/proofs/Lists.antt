-- Numbers from 0 on, and what stands beside a member.
use Rattle.std.proofs.Common.{◌≡◌, ℕ, zero, suc, ◌+◌, ◌<◌, ◌≤◌, true, List, [], ◌∷◌, ◌++◌, length, map, refl, arith}
use Rattle.std.proofs.Math.Seq.{drop-append_seam}
use Rattle.std.specs.Prelude.{All}
use Rattle.std.proofs.lemmas.List.Elements.{All-drop}
use Rattle.std.proofs.lemmas.List.{map_push}
use Rattle.node_set.specs.Ascending.{sift}
use Rattle.node_set.specs.SetLaws.{passing_takes}
use Rattle.node_set.specs.Balls.{centres}

-- one number more
pub centres_push : (v : ℕ) → centres (v + 1) ≡ centres v ++ v ∷ []
centres_push v = passing_takes (λ x. true) v refl

pub made_more : {X : Type 0} (f : ℕ → X) (v : ℕ) {old new : List X} {y : X} → old ≡ map f (centres v) → y ≡ f v
    → new ≡ old ++ y ∷ [] → new ≡ map f (centres (v + 1))
made_more {X} f v {y} before is now = grind (arith, centres_push, map_push)

map_same_range : {X : Type 0} (f g : ℕ → X) (v n : ℕ) → ((u : ℕ) → v ≤ u → u < v + n → f u ≡ g u)
    → map f (sift (λ x. true) v n) ≡ map g (sift (λ x. true) v n)
map_same_range f g v zero same = refl
map_same_range f g v (suc n) same =
    let rest = map_same_range f g (suc v) n (λ u low high. same u (omega arith) (omega arith)) in
    rw (same v (omega arith) (omega arith), rest) refl

pub map_same : {X : Type 0} (f g : ℕ → X) (n : ℕ) → ((u : ℕ) → u < n → f u ≡ g u) → map f (centres n)
    ≡ map g (centres n)
map_same f g n same = map_same_range f g 0 n (λ u low high. same u (omega arith))

-- what holds of all holds of the one that comes next
pub next_holds : {X : Type 0} (P : X → Type 0) {all : List X} (before : List X) {rest later : List X} {x : X}
    → all ≡ before ++ rest → rest ≡ x ∷ later → All P all → P x
next_holds {X} P {all} before {rest} {later} {x} whole next holds =
    grind (arith, drop-append_seam before rest, All-drop P (length before) all holds)
