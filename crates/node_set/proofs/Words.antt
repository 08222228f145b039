-- Which numbers the bits of words stand for.
use Rattle.std.proofs.Common.{◌≡◌, ◌⊎◌, inl, inr, ℕ, zero, suc, ◌+◌, ◌*◌, ◌/◌, ◌%◌, ◌^◌, ◌<◌, ◌≤◌, Bool, true, false, IsTrue, ◌↔◌, ◌||◌, List, [], length, get_or, set, replicate, refl, sym, ◌∙◌, ap, arith, w64, add-zero, length-set}
use Rattle.std.specs.Prelude.{◌==◌, bit_or, bit_and}
use Rattle.std.specs.Int.{bit_at}
use Rattle.std.specs.Int.Count.{ones, ones_step}
use Rattle.std.proofs.lemmas.Bool.Decides.{nat_tests}
use Rattle.std.proofs.lemmas.Bool.{cases_lt, eqb-true, ne_eqb}
use Rattle.std.proofs.Math.Nat.{pow-suc}
use Rattle.std.proofs.lemmas.Grind.{get_or_default_zero}
use Rattle.std.proofs.lemmas.List.{get_or_past, get_or-replicate, length-replicate, get_or-set_same, get_or-set_other}
use Rattle.std.proofs.lemmas.Nat.Bits.{bit_at-zero, bit_at-suc, bit_at_lowest, bit_at_or, bit_at-lt, bit_at_set_same, bit_at_set_other, shr_and_one}
use Rattle.node_set.specs.Ascending.{has, IsAscending, with_number, union, share, sift}
use Rattle.node_set.specs.Lanes.{Meet, AreWordsJoined}
use Rattle.node_set.specs.Scan.{IsNext}
use Rattle.node_set.specs.Nodes.{AreNodes, AreWords, is_set, set_bits}
use Rattle.node_set.specs.SetLaws.{passing_over, length-passing-le, has-passing, ascending-passing, length-cond, length-passing-add, same_members, has-inserted, has-union, ascending-inserted, ascending-union, below-has, below_from_has, share_from, share_gives}

-- ---- the numbers of words

pub is_set_past : (words : List ℕ) (x : ℕ) → length words ≤ x / 64 → is_set words x ≡ false
is_set_past words x h = rw (get_or_past words (x / 64) 0 h, bit_at-zero (x % 64)) refl

pub has-set_bits : (words : List ℕ) (x : ℕ) → has x (set_bits words) ≡ is_set words x
has-set_bits words x = grind (arith, has-passing, passing_over, is_set_past)

pub ascending-set_bits : (words : List ℕ) → IsAscending (set_bits words)
ascending-set_bits words = ascending-passing (is_set words) 0 (64 * length words)

-- an ascending list with the same members is what the words stand for
pub same_as_bits : (words xs : List ℕ) → IsAscending xs → ((x : ℕ) → is_set words x ≡ has x xs) → set_bits words ≡ xs
same_as_bits words xs all same = grind (arith, same_members, ascending-set_bits, has-set_bits)

pub are_nodes : {room : ℕ} {words : List ℕ} → AreWords room words
    → AreNodes (record { room = room; members = set_bits words })
are_nodes {room} {words} ok = record {
  small = ok.small;
  ascending = ascending-set_bits words;
  below = below_from_has room (set_bits words) (λ x h. grind (arith, ok.tail x, has-set_bits words x));
}

-- a number that the scan finds is in the room
pub next_below : {room from v : ℕ} {words : List ℕ} → AreWords room words → IsNext (set_bits words) from v → v < room
next_below {room} {v = v} {words} ok next = below-has room v (set_bits words) (are_nodes ok).below next.member

-- ---- no bit

is_set-zeros : (n x : ℕ) → is_set (replicate n 0) x ≡ false
is_set-zeros n x = rw (zeros (cases_lt (x / 64) n), bit_at-zero (x % 64)) refl
  where
    zeros : (x / 64 < n) ⊎ (n ≤ x / 64) → ◌≡◌ {A = ℕ} (get_or (replicate n 0) (x / 64) 0) 0
    zeros (inl below) = get_or-replicate n (x / 64) 0 0 below
    zeros (inr over) = get_or_past (replicate n 0) (x / 64) 0 (omega (arith, length-replicate {A = ℕ} n 0))

pub no_bits : (n : ℕ) → set_bits (replicate n 0) ≡ []
no_bits n = same_as_bits (replicate n 0) [] tt (is_set-zeros n)

-- ---- one bit

-- the test of a bit, in the word w of v
pub has_word : (words : List ℕ) (v : ℕ) {w : ℕ} → v / 64 < length words → w ≡ get_or words (v / 64) w
    → bit_and (w / 2 ^ (v % 64)) 1 == 1 ≡ has v (set_bits words)
has_word words v {w} h e =
    rw (has-set_bits words v, ← get_or_default_zero words (v / 64) w h, ← e, shr_and_one w (v % 64)) refl

-- one word, with the bit s set: t < 64 and s < 64 need no proof for the other bits
bit_more : (w s t : ℕ) → s < 64 → bit_at (bit_or w (1 * 2 ^ s % 2 ^ 64)) t == 1 ≡ (t == s || bit_at w t == 1)
bit_more w s t h = grind (arith, nat_tests, bit_at_set_same w64 w s h, bit_at_set_other w64 w s h t)

same_word : (x v : ℕ) → x / 64 ≡ v / 64 → x % 64 == v % 64 ≡ x == v
same_word x v e = grind (arith, nat_tests)

is_set-insert : (words : List ℕ) (v x : ℕ) {w : ℕ} → v / 64 < length words → w ≡ get_or words (v / 64) 0
    → is_set (set words (v / 64) (bit_or w (1 * 2 ^ (v % 64) % 2 ^ 64))) x ≡ (x == v || is_set words x)
is_set-insert words v x {w} h e = grind (arith, get_or-set_same, get_or-set_other, same_word, bit_more)

pub insert_bit : (words : List ℕ) (v : ℕ) {w : ℕ} → v / 64 < length words → w ≡ get_or words (v / 64) w
    → set_bits (set words (v / 64) (bit_or w (1 * 2 ^ (v % 64) % 2 ^ 64))) ≡ with_number v (set_bits words)
insert_bit words v {w} h e =
    same_as_bits (set words (v / 64) (bit_or w (1 * 2 ^ (v % 64) % 2 ^ 64))) (with_number v (set_bits words))
    (ascending-inserted v (set_bits words) (ascending-set_bits words))
    (λ x. is_set-insert words v x h (e ∙ get_or_default_zero words (v / 64) w h)
    ∙ sym (rw (has-inserted x v (set_bits words), has-set_bits words x) refl))

pub words-insert : {room : ℕ} {words : List ℕ} (v : ℕ) {w : ℕ} → AreWords room words → v < room → v / 64 < length words
    → w ≡ get_or words (v / 64) w → AreWords room (set words (v / 64) (bit_or w (1 * 2 ^ (v % 64) % 2 ^ 64)))
words-insert {words} v {w} ok below h e = record {
  small = ok.small;
  enough = length-set words (v / 64) (bit_or w (1 * 2 ^ (v % 64) % 2 ^ 64)) ∙ ok.enough;
  tail = λ x over. grind (arith, is_set-insert, get_or_default_zero, ne_eqb);
}

-- ---- two sets of words

is_set-joined : {words more both : List ℕ} (x : ℕ) → AreWordsJoined words more both → length words ≡ length more
    → is_set both x ≡ (is_set more x || is_set words x)
is_set-joined {words} {more} {both} x all same = grind (arith, bit_at_or, bit_at-lt, is_set_past)

pub absorb_bits : {words more both : List ℕ} → AreWordsJoined words more both → length words ≡ length more
    → set_bits both ≡ union (set_bits more) (set_bits words)
absorb_bits {words} {more} {both} all same =
    search (same_as_bits, ascending-union, ascending-set_bits, is_set-joined, has-union, has-set_bits)

pub words-absorb : {room : ℕ} {words more both : List ℕ} → AreWords room words → AreWords room more
    → AreWordsJoined words more both → AreWords room both
words-absorb ok ok_more all = record {
  small = ok.small;
  enough = all.enough ∙ ok.enough;
  tail = λ x over. is_set-joined x all (ok.enough ∙ sym ok_more.enough)
      ∙ rw (ok_more.tail x over, ok.tail x over) refl;
}

-- some number is in both sets just where the words have a bit in common
pub meet_bits : (words more : List ℕ) {result : Bool} → length words ≡ length more → IsTrue result ↔ Meet words more
    → result ≡ share (set_bits words) (set_bits more)
meet_bits words more {result} same meet = at result (share (set_bits words) (set_bits more)) (λ h. shared (meet.0 h))
    (λ h. meet.1 (found (share_gives (set_bits words) (set_bits more) h)))
  where
    at : (b c : Bool) → (IsTrue b → c ≡ true) → (c ≡ true → IsTrue b) → b ≡ c
    at true c to from = sym (to refl)
    at false true to from = from refl
    at false false to from = refl

    shared : Meet words more → share (set_bits words) (set_bits more) ≡ true
    shared place =
        let word : (64 * place.0 + place.1) / 64 ≡ place.0 = omega (arith, place.3) in
        let bit : (64 * place.0 + place.1) % 64 ≡ place.1 = omega (arith, place.3) in
        share_from (64 * place.0 + place.1) (set_bits words) (set_bits more)
        (has-set_bits words (64 * place.0 + place.1) ∙ rw (word, bit, place.4) refl)
        (has-set_bits more (64 * place.0 + place.1) ∙ rw (word, bit, place.5) refl)

    within : (x : ℕ) → is_set words x ≡ true → x / 64 < length words
    within x h = grind (arith, is_set_past words x)

    found : (x : ℕ) × (has x (set_bits words) ≡ true) × (has x (set_bits more) ≡ true) → Meet words more
    found w =
        let here : is_set words w.0 ≡ true = sym (has-set_bits words w.0) ∙ w.1 in
        let there : is_set more w.0 ≡ true = sym (has-set_bits more w.0) ∙ w.2 in
        (w.0 / 64, w.0 % 64, within w.0 here, omega arith, eqb-true _ 1 here, eqb-true _ 1 there)

-- ---- the count

ones_zero : ones 0 ≡ 0
unfolding ones
ones_zero = refl

length-passing_word : (test : ℕ → Bool) (v k w : ℕ) → w < 2 ^ k → ((i : ℕ) → i < k → test (v + i) ≡ (bit_at w i == 1))
    → length (sift test v k) ≡ ones w
length-passing_word test v zero w h same = let e : w ≡ 0 = omega arith in rw (e, ones_zero) refl
length-passing_word test v (suc k) w h same =
    let half : w / 2 < 2 ^ k = omega (arith, pow-suc 2 k) in
    let first : test v ≡ bit_at w 0 == 1 = rw add-zero at (same 0 (omega arith)) in
    let rest = length-passing_word test (suc v) k (w / 2) half (λ i below.
    grind (arith, nat_tests, bit_at-suc w i)) in
    grind (
      arith,
      nat_tests,
      length-cond (test v) v (sift test (suc v) k),
      first,
      rest,
      bit_at_lowest w,
      ones_step w,
    )

-- the bit of a number, by its word and its place there
pub bits_of_word : (words : List ℕ) {x : ℕ} (k i : ℕ) → x ≡ 64 * k + i → i < 64
    → is_set words x ≡ bit_at (get_or words k 0) i == 1
bits_of_word words {x} k i is below =
    grind arith

bits_from : (words : List ℕ) (k i : ℕ) → i < 64 → is_set words (0 + 64 * k + i) ≡ bit_at (get_or words k 0) i == 1
bits_from words k i below = bits_of_word words k i (omega arith) below

pub count_word : (words : List ℕ) {total : ℕ} (k : ℕ) → get_or words k 0 < 2 ^ 64
    → total ≡ length (sift (is_set words) 0 (64 * k)) → total + ones (get_or words k 0) ≡ length
    (sift (is_set words) 0 (64 * (k + 1)))
count_word words {total} k small before =
    let next : 64 * (k + 1) ≡ 64 * k + 64 = omega arith in
    ap (λ (n : ℕ). total + n)
    (sym (length-passing_word (is_set words) (0 + 64 * k) 64 (get_or words k 0) small (bits_from words k)))
    ∙ ap (λ (n : ℕ). n + length (sift (is_set words) (0 + 64 * k) 64)) before
    ∙ sym (length-passing-add (is_set words) 0 (64 * k) 64)
    ∙ ap (λ (n : ℕ). length (sift (is_set words) 0 n)) (sym next)

pub count_fits : (words : List ℕ) {total : ℕ} (k : ℕ) → k < 16 → get_or words k 0 < 2 ^ 64
    → total ≡ length (sift (is_set words) 0 (64 * k)) → total + ones (get_or words k 0) ≤ 1024
count_fits words k few small before =
    omega (arith, count_word words k small before, length-passing-le (is_set words) 0 (64 * (k + 1)))
