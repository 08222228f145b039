use Rattle.std.proofs.Common.{◌≡◌, ℕ, List, [], ◌∷◌, ◌++◌}
use Rattle.track.proofs.wrong.wrong_rests.Goals as goal

other-end : (front : List ℕ) → ◌≡◌ {A = List ℕ} (1 ∷ []) (front ++ 2 ∷ []) → ⊥
other-end [] e = cc
other-end (x ∷ []) e = cc
other-end (x ∷ y ∷ front) e = cc

front-end : (front : List ℕ) → ◌≡◌ {A = List ℕ} (1 ∷ 2 ∷ []) (front ++ 1 ∷ []) → ⊥
front-end [] e = cc
front-end (x ∷ []) e = cc
front-end (x ∷ y ∷ []) e = cc
front-end (x ∷ y ∷ z ∷ front) e = cc

more-end : (front : List ℕ) → ◌≡◌ {A = List ℕ} [] (front ++ 1 ∷ []) → ⊥
more-end [] e = cc
more-end (x ∷ front) e = cc

pub returns : goal.returns
returns c = record {
  other = λ is. other-end is.front (cc is.parts);
  more = λ is. more-end is.front (cc is.parts);
  front = λ is. front-end is.front (cc is.parts);
  unknown = λ is. cc is.parts;
}
