-- What is left of a set's words where those of another cut them.
use Rattle.std.proofs.Common.{◌≡◌, ℕ, ◌-◌, ◌/◌, ◌%◌, ◌<◌, ◌^◌, ◌&&◌, ◌++◌, Bool, List, length, take, drop, filter, get_or, refl, sym, ◌∙◌, arith, not, w64}
use Rattle.std.specs.Prelude.{◌==◌, bit_and}
use Rattle.std.specs.Int.{bit_at, bit_not}
use Rattle.std.proofs.lemmas.Bool.Decides.{nat_tests}
use Rattle.std.proofs.lemmas.List.{take_at}
use Rattle.std.proofs.lemmas.Nat.Bits.{bit_at_and, bit_at_not, bit_at-lt}
use Rattle.node_set.specs.Ascending.{has}
use Rattle.node_set.specs.Lanes.{AreWordsKept, AreWordsRemoved}
use Rattle.node_set.specs.Nodes.{AreWords, is_set, set_bits}
use Rattle.node_set.specs.FilterLaws.{ascending-filter, has-filter}
use Rattle.node_set.proofs.Words.{is_set_past, has-set_bits, ascending-set_bits, same_as_bits}

-- of each bit of the first the new words have what a test of the second's says
pub record IsCut (test : Bool → Bool) (a b new : List ℕ) : Type 0 where
  pub enough : length new ≡ length a
  pub bits : (k i : ℕ) → k < length a → i < 64
      → (bit_at (get_or new k 0) i == 1) ≡ (bit_at (get_or a k 0) i == 1 && test (bit_at (get_or b k 0) i == 1))

is_set-cut : {test : Bool → Bool} {a b new : List ℕ} (x : ℕ) → IsCut test a b new
    → is_set new x ≡ (is_set a x && test (is_set b x))
is_set-cut {a = a} {new = new} x cut =
    grind (arith, cut.bits (x / 64) (x % 64), cut.enough, is_set_past new x, is_set_past a x)

-- a set whose words were cut and written over whole
pub cut_set : {test : Bool → Bool} {room len : ℕ} {a b new : List ℕ} → AreWords room a → IsCut test a b new
    → len ≡ length a
    → AreWords room (take len (new ++ drop (length new) a))
    × (set_bits (take len (new ++ drop (length new) a)) ≡ filter (λ v. test (has v (set_bits b))) (set_bits a))
cut_set {test} {len = len} {a} {b} {new} ok cut count =
    rw (take_at new (drop (length new) a) len (cut.enough ∙ sym count)) (
      record {
        small = ok.small;
        enough = cut.enough ∙ ok.enough;
        tail = λ x over. is_set-cut x cut ∙ rw (ok.tail x over) refl;
      },
      same_as_bits new (filter (λ v. test (has v (set_bits b))) (set_bits a))
          (ascending-filter (λ v. test (has v (set_bits b))) (set_bits a) (ascending-set_bits a))
          (λ x. is_set-cut x cut ∙ sym (rw (
            has-filter (λ v. test (has v (set_bits b))) x (set_bits a),
            has-set_bits a x,
            has-set_bits b x,
          ) refl)),
    )

-- ---- what both have, and what the second hasn't

pub kept : {a b new : List ℕ} → AreWordsKept a b new → IsCut (λ here. here) a b new
kept {a} {b} all = record {
  enough = all.enough;
  bits = λ k i below short. grind (arith, bit_at_and, bit_at-lt);
}

pub removed : {a b new : List ℕ} → AreWordsRemoved a b new → IsCut not a b new
removed {a} {b} all = record {
  enough = all.enough;
  bits = λ k i below short.
      grind (arith, nat_tests, all.left k i below short, bit_at-lt (get_or a k 0) i, bit_at-lt (get_or b k 0) i);
}

pub word_without : (x y i : ℕ) → y < 2 ^ 64 → i < 64 → bit_at (bit_and x (bit_not w64 y)) i ≡ bit_at x i - bit_at y i
word_without x y i small below = omega (
  arith,
  bit_at_and x (bit_not w64 y) i,
  bit_at_not w64 y i small below,
  bit_at-lt x i,
  bit_at-lt y i,
)
