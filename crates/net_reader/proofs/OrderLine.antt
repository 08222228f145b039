-- The numbers of a line of the order.
use Rattle.std.proofs.Common.{◌≡◌, ℕ, append_assoc, length-append, length-take, get_or, drop, ◌+◌, ◌<◌, ◌≤◌, true, false, set, take, List, [], ◌∷◌, ◌++◌, length, refl, ap, sym, ◌∙◌, arith}
use Rattle.std.proofs.lemmas.Bool.Decides.{nat_tests}
use Rattle.std.proofs.lemmas.List.{append-nil, drop-drop, get_or-set_same, length-set, take-set, take_more}
use Rattle.std.proofs.lemmas.List.Folds.{list_any-append, list_any_at}
use Rattle.std.specs.List.{list_any}
use Rattle.std.specs.Prelude.{nat_le}
use Rattle.net_reader.specs.Steps.{keep}
use Rattle.net_reader.specs.Whole.{IsLast, IsNumberTo, IsTaking, Takes, between}
use Rattle.net_reader.proofs.Running.{run-join, run-none}
use Rattle.net_reader.proofs.WholeLine.{blank-behind, numbers-behind}

-- one number more of the order
keep-few : (numbers : List ℕ) (value : ℕ) → length numbers < 64 → keep numbers value ≡ numbers ++ value ∷ []
keep-few numbers value few = grind (arith, nat_tests)

below-more : (limit value : ℕ) (numbers : List ℕ) → list_any (λ number. nat_le limit number) numbers ≡ false
    → value < limit → list_any (λ number. nat_le limit number) (numbers ++ value ∷ []) ≡ false
below-more limit value numbers below less =
    grind (arith, nat_tests, list_any-append (λ number. nat_le limit number) numbers (value ∷ []))

-- one number more of those that a line has
pub taken-more : (order : List ℕ) {now later : List ℕ} (numbers : List ℕ) (i : ℕ) → i < length numbers
    → now ≡ order ++ take i numbers → later ≡ now ++ get_or numbers i 0 ∷ [] → later ≡ order ++ take (i + 1) numbers
taken-more order numbers i within before is =
    rw (is, before, append_assoc, ← take_more numbers i 0 within)

pub known-more : (limit : ℕ) (numbers : List ℕ) (i : ℕ) → i < length numbers
    → list_any (λ number. nat_le limit number) (take i numbers) ≡ false → get_or numbers i 0 < limit
    → list_any (λ number. nat_le limit number) (take (i + 1) numbers) ≡ false
known-more limit numbers i within known less =
    rw (take_more numbers i 0 within) (below-more limit (get_or numbers i 0) (take i numbers) known less)

-- one that isn't below the limit
pub unknown-at : (limit : ℕ) (numbers : List ℕ) (i : ℕ) → i < length numbers → limit ≤ get_or numbers i 0
    → list_any (λ number. nat_le limit number) numbers ≡ true
unknown-at limit numbers i within most =
    list_any_at (λ number. nat_le limit number) numbers i 0 within (grind (arith, nat_tests))

pub taking-none : (limit : ℕ) (before piece : List ℕ) → IsTaking limit before before piece piece
taking-none limit before piece = record {
  numbers = [];
  run = λ word. run-none (between word []) piece;
  added = sym (append-nil before);
  below = refl;
}

pub taking-more : {limit value : ℕ} {before now piece rest after : List ℕ} → IsTaking limit before now piece rest
    → IsNumberTo 32 value rest after → value < limit → length now < length before + 64
    → IsTaking limit before (now ++ value ∷ []) piece after
taking-more {limit} {value} {before} {piece} {after} taking number less few =
    let numbers = taking.numbers in
    let short : length numbers < 64 = omega (arith, few, ap length taking.added, length-append before numbers) in
    record {
      numbers = numbers ++ value ∷ [];
      run = λ word. rw (← keep-few numbers value short) (run-join (taking.run word) (blank-behind word numbers number));
      added = rw (taking.added, append_assoc);
      below = below-more limit value numbers taking.below less;
    }

pub taking-last : {limit : ℕ} (value : ℕ) {before now piece rest : List ℕ} (after : List ℕ)
    → IsTaking limit before now piece rest → IsLast value rest after → value < limit → length now < length before + 64
    → Takes limit before (now ++ value ∷ []) piece after
taking-last {limit} value {before} after taking number less few =
    let numbers = taking.numbers in
    let short : length numbers < 64 = omega (arith, few, ap length taking.added, length-append before numbers) in
    record {
      numbers = numbers ++ value ∷ [];
      ends = numbers-behind value numbers after taking.run number (keep-few numbers value short);
      added = rw (taking.added, append_assoc);
      some = omega (arith, length-append numbers (value ∷ []));
      few = omega (arith, short, length-append numbers (value ∷ []));
      below = below-more limit value numbers taking.below less;
    }

-- a list's front with one thing more
take-more-set : (xs : List ℕ) (i x : ℕ) → i < length xs → take (i + 1) (set xs i x) ≡ take i xs ++ x ∷ []
take-more-set xs i x within =
    rw (
      take_more (set xs i x) i 0 (omega (arith, within, length-set xs i x)),
      take-set xs i x,
      get_or-set_same xs i x 0 within,
    )

pub written-more : {limit value : ℕ} (count : ℕ) {before : List ℕ} (xs : List ℕ) {piece rest after : List ℕ}
    → IsTaking limit before (take count xs) piece rest → IsNumberTo 32 value rest after → value < limit
    → count < length xs → length xs ≤ 64 → IsTaking limit before (take (count + 1) (set xs count value)) piece after
written-more {value = value} count xs taking number less within few =
    rw (take-more-set xs count value within)
    (taking-more taking number less (omega (arith, few, within, length-take count xs)))

pub written-last : {limit : ℕ} (value count : ℕ) {before : List ℕ} (xs : List ℕ) {piece rest : List ℕ} (after : List ℕ)
    → IsTaking limit before (take count xs) piece rest → IsLast value rest after → value < limit → count < length xs
    → length xs ≤ 64 → Takes limit before (take (count + 1) (set xs count value)) piece after
written-last value count xs after taking number less within few =
    rw (take-more-set xs count value within)
    (taking-last value after taking number less (omega (arith, few, within, length-take count xs)))

-- a number from a place on
pub number-at : {end value : ℕ} (at taken : ℕ) (piece : List ℕ) {rest after : List ℕ} → rest ≡ drop at piece
    → after ≡ drop (at + taken) piece → IsNumberTo end value rest (drop taken rest)
    → IsNumberTo end value (drop at piece) after
number-at at taken piece front back number = rw (back, ← drop-drop taken at piece, ← front) number

-- the same numbers after others
pub behind-others : {limit : ℕ} (before : List ℕ) {now numbers piece rest : List ℕ} → Takes limit [] numbers piece rest
    → now ≡ before ++ numbers → Takes limit before now piece rest
behind-others before {numbers} takes is = record {
  numbers = takes.numbers;
  ends = takes.ends;
  added = is ∙ ap (λ ns. before ++ ns) takes.added;
  some = takes.some;
  few = takes.few;
  below = takes.below;
}
