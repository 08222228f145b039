-- What one ball more makes of a union, and one home more of the homes.
use Rattle.std.proofs.Common.{◌≡◌, ℕ, ◌+◌, ◌<◌, ◌≤◌, false, cond, ◌||◌, List, [], ◌∷◌, ◌++◌, length, filter, get_or, set, refl, ◌∙◌, arith}
use Rattle.std.proofs.lemmas.List.{get_or-set_same, get_or-set_other}
use Rattle.node_set.specs.Ascending.{has, IsAscending, union, sift}
use Rattle.node_set.specs.Balls.{ball, union_of}
use Rattle.node_set.specs.FilterLaws.{ascending-filter, has-filter}
use Rattle.node_set.specs.Scan.{IsNext, IsNoneFrom}
use Rattle.node_set.specs.ScanLaws.{next_taken}
use Rattle.node_set.specs.SetLaws.{has-union, same_members}

-- ---- one ball more

union_push : (balls : List (List ℕ)) (x v : ℕ) (vs : List ℕ)
    → has x (union_of balls (vs ++ v ∷ [])) ≡ (has x (union_of balls vs) || has x (ball balls v))
unfolding union_of
union_push balls x v [] = grind (arith, has-union x (ball balls v) [])
union_push balls x v (w ∷ ws) = grind (
  arith,
  has-union x (ball balls w) (union_of balls (ws ++ v ∷ [])),
  union_push balls x v ws,
  has-union x (ball balls w) (union_of balls ws),
)

pub union_nothing : (balls : List (List ℕ)) (x : ℕ) → has x (union_of balls []) ≡ false
unfolding union_of
union_nothing balls x = refl

pub absorb_next : (balls : List (List ℕ)) {centres : List ℕ} (old nodes : List ℕ) {b : List ℕ} {from v : ℕ}
    → IsNext centres from v → ball balls v ≡ b → ((x : ℕ)
    → has x nodes ≡ (has x (union_of balls (sift (λ u. has u centres) 0 from)) || has x old)) → (x : ℕ)
    → has x (union b nodes) ≡ (has x (union_of balls (sift (λ u. has u centres) 0 (v + 1))) || has x old)
absorb_next balls {centres} old nodes {b} {from} {v} next is before x = grind (
  arith,
  has-union x b nodes,
  before x,
  next_taken centres from v next,
  union_push balls x v (sift (λ u. has u centres) 0 from),
  is,
)

-- ---- one home more

module _ {taken : List ℕ} (number : ℕ) {from v : ℕ} (old home : List ℕ) (next : IsNext taken from v)
    (short : v < length home)
    (done : (x : ℕ) → x < from → get_or home x 0 ≡ cond (has x taken) number (get_or old x 0))
    (left : (x : ℕ) → from ≤ x → get_or home x 0 ≡ get_or old x 0) where
  homes_done : (x : ℕ) → x < v + 1 → get_or (set home v number) x 0 ≡ cond (has x taken) number (get_or old x 0)
  homes_done x below = grind (arith, get_or-set_same, get_or-set_other)

  homes_left : (x : ℕ) → v + 1 ≤ x → get_or (set home v number) x 0 ≡ get_or old x 0
  homes_left x past = get_or-set_other home v x number 0 (λ same. omega arith) ∙ left x (omega (arith, next.reached))

  pub homes_more : record {
    done : (x : ℕ) → x < v + 1 → get_or (set home v number) x 0 ≡ cond (has x taken) number (get_or old x 0);
    left : (x : ℕ) → v + 1 ≤ x → get_or (set home v number) x 0 ≡ get_or old x 0;
  }
  homes_more = record { done = homes_done; left = homes_left }

pub homes_end : (taken : List ℕ) (number from : ℕ) (old home : List ℕ) → IsNoneFrom taken from
    → ((x : ℕ) → x < from → get_or home x 0 ≡ cond (has x taken) number (get_or old x 0))
    → ((x : ℕ) → from ≤ x → get_or home x 0 ≡ get_or old x 0)
    → (x : ℕ) → get_or home x 0 ≡ cond (has x taken) number (get_or old x 0)
homes_end taken number from old home none done left x = grind (arith, done x, left x, none x)

-- ---- what both lists have

pub same_filter : (xs ys : List ℕ) → IsAscending xs → IsAscending ys → filter (λ v. has v ys) xs
    ≡ filter (λ v. has v xs) ys
same_filter xs ys xs_ascend ys_ascend =
    grind (arith, same_members, ascending-filter, has-filter)
