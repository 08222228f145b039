-- Rows that have no shape: a count of numbers that is wrong.
use Rattle.std.proofs.Common.{◌≡◌, ℕ, Bool, true, false, List, [], ◌∷◌, Option, Some, None, if◌then◌else◌, option_and_then, length, codes, bytes_eq, refl, ◌∙◌}
use Rattle.net_reader.specs.declared.said.Call.{Call}
use Rattle.net_reader.specs.declared.said.Call.TheVariants as calls
use Rattle.json_form.specs.Taking.{call_of, edge_of, find_of, move_of, switch_of}

-- nothing is made of numbers whose count is wrong
pub none-of : {A : Type 0} (f : List ℕ → Option A) (o : Option (List ℕ)) {count : ℕ}
    → ((ns : List ℕ) → o ≡ Some ns → length ns ≡ count → ⊥) → ((ns : List ℕ) → (length ns ≡ count → ⊥) → f ns ≡ None)
    → option_and_then f o ≡ None
none-of f None differs none = refl
none-of f (Some ns) differs none = none ns (differs ns refl)

pub edge-none : (ns : List ℕ) → (length ns ≡ 3 → ⊥) → edge_of ns ≡ None
edge-none [] differs = refl
edge-none (a ∷ []) differs = refl
edge-none (a ∷ b ∷ []) differs = refl
edge-none (a ∷ b ∷ w ∷ []) differs = absurd (differs refl)
edge-none (a ∷ b ∷ w ∷ more ∷ ns) differs = refl

move-none : (ns : List ℕ) → (length ns ≡ 2 → ⊥) → move_of ns ≡ None
move-none [] differs = refl
move-none (a ∷ []) differs = refl
move-none (a ∷ b ∷ []) differs = absurd (differs refl)
move-none (a ∷ b ∷ more ∷ ns) differs = refl

find-none : (ns : List ℕ) → (length ns ≡ 3 → ⊥) → find_of ns ≡ None
find-none [] differs = refl
find-none (a ∷ []) differs = refl
find-none (a ∷ b ∷ []) differs = refl
find-none (a ∷ b ∷ w ∷ []) differs = absurd (differs refl)
find-none (a ∷ b ∷ w ∷ more ∷ ns) differs = refl

switch-none : (call : Call) (ns : List ℕ) → (length ns ≡ 1 → ⊥) → switch_of call ns ≡ None
switch-none call [] differs = refl
switch-none call (a ∷ []) differs = absurd (differs refl)
switch-none call (a ∷ more ∷ ns) differs = refl

chosen : {A : Type 0} (b : Bool) (x y : A) → b ≡ true → (if b then x else y) ≡ x
chosen true x y e = refl
chosen false x y e = absurd cc

other : {A : Type 0} (b : Bool) (x y : A) → b ≡ false → (if b then x else y) ≡ y
other true x y e = absurd cc
other false x y e = refl

pub spoken-move : (word ns : List ℕ) → bytes_eq word (codes "move") ≡ true → (length ns ≡ 2 → ⊥)
    → call_of word ns ≡ None
spoken-move word ns is differs = chosen (bytes_eq word (codes "move")) _ _ is ∙ move-none ns differs

pub spoken-find : (word ns : List ℕ) → bytes_eq word (codes "move") ≡ false → bytes_eq word (codes "find") ≡ true
    → (length ns ≡ 3 → ⊥) → call_of word ns ≡ None
spoken-find word ns no-move is differs =
    other (bytes_eq word (codes "move")) _ _ no-move ∙ chosen (bytes_eq word (codes "find")) _ _ is
    ∙ find-none ns differs

pub spoken-off : (word ns : List ℕ) → bytes_eq word (codes "move") ≡ false → bytes_eq word (codes "find") ≡ false
    → bytes_eq word (codes "off") ≡ true → (length ns ≡ 1 → ⊥) → call_of word ns ≡ None
spoken-off word ns no-move no-find is differs =
    other (bytes_eq word (codes "move")) _ _ no-move ∙ other (bytes_eq word (codes "find")) _ _ no-find
    ∙ chosen (bytes_eq word (codes "off")) _ _ is ∙ switch-none calls.Off ns differs

pub spoken-on : (word ns : List ℕ) → bytes_eq word (codes "move") ≡ false → bytes_eq word (codes "find") ≡ false
    → bytes_eq word (codes "off") ≡ false → bytes_eq word (codes "on") ≡ true → (length ns ≡ 1 → ⊥)
    → call_of word ns ≡ None
spoken-on word ns no-move no-find no-off is differs =
    other (bytes_eq word (codes "move")) _ _ no-move ∙ other (bytes_eq word (codes "find")) _ _ no-find
    ∙ other (bytes_eq word (codes "off")) _ _ no-off ∙ chosen (bytes_eq word (codes "on")) _ _ is
    ∙ switch-none calls.On ns differs
