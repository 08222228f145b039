-- The clusters of each node, while they are counted.
use Rattle.std.proofs.Common.{rules, ◌≡◌, ℕ, zero, suc, ◌+◌, ◌<◌, ◌≤◌, Bool, true, false, cond, ◌||◌, List, [], ◌∷◌, ◌++◌, length, take, set, get_or, refl, ◌∙◌, ap, arith, add-zero, zero-add}
use Rattle.std.specs.Prelude.{◌==◌, All}
use Rattle.std.proofs.lemmas.Bool.{cases_eq, eq-eqb, ne_eqb}
use Rattle.std.proofs.lemmas.Grind.{get_or_default_zero}
use Rattle.std.proofs.lemmas.List.{get_or-set_same, get_or-set_other, length-set, take_more}
use Rattle.node_set.specs.Ascending.{has, IsAscending, sift}
use Rattle.node_set.specs.SetLaws.{has-append, below_each, length-cond, length-passing-add, length-passing-le}
use Rattle.region_plan.specs.Plan.{PlanCluster, cluster_in}
use Rattle.region_plan.specs.Readers.{AreCounts, HaveRoom, IsCounted}
use Rattle.std.proofs.Math.Bool.{or-false, or-true}
use Rattle.net_graph.specs.Starts.{AreStarts}
use Rattle.net_graph.specs.StartLaws.{places_made}

-- ---- one member more

has_push : (x y : ℕ) (xs : List ℕ) → has x (xs ++ y ∷ []) ≡ (has x xs || x == y)
has_push x y xs = has-append x xs (y ∷ []) ∙ ap (λ b. has x xs || b) (or-false (x == y))

-- a number of an ascending list isn't among those before it
fresh : (xs : List ℕ) (i : ℕ) → IsAscending xs → i < length xs → has (get_or xs i 0) (take i xs) ≡ false
fresh [] i ascending short = absurd (omega arith)
fresh (x ∷ xs) zero ascending short = refl
fresh (x ∷ xs) (suc i) ascending short = grind (arith, fresh xs i ascending.1 (omega arith), below_each, ne_eqb)

pub none_counted : (old : List ℕ) → IsCounted [] old old
none_counted old = record { count = refl; each = λ v below. omega arith }

module _ (members old counts : List ℕ) (i : ℕ) (short : i < length members)
    (before : IsCounted (take i members) old counts) where
  m : ℕ
  m = get_or members i 0

  more : (v : ℕ) → has v (take (i + 1) members) ≡ (has v (take i members) || v == m)
  unfolding m
  more v = ap (has v) (take_more members i 0 short) ∙ has_push v (get_or members i 0) (take i members)

  other_node : (v : ℕ) → (v ≡ m → ⊥) → has v (take (i + 1) members) ≡ has v (take i members)
  other_node v other = search (rules, more, ne_eqb, m, or-false)

  this_node : has m (take (i + 1) members) ≡ true
  this_node = more m ∙ ap (λ b. has m (take i members) || b) (eq-eqb m m refl) ∙ or-true (has m (take i members))

  -- it isn't counted yet
  pub uncounted : IsAscending members → get_or members i 0 < length old
      → get_or counts (get_or members i 0) 0 ≡ get_or old (get_or members i 0) 0
  uncounted ascending below = grind (arith, before.each (get_or members i 0) below, fresh, add-zero)

  pub one_counted : IsAscending members → get_or members i 0 < length old → IsCounted (take (i + 1) members) old
      (set counts (get_or members i 0) (get_or counts (get_or members i 0) 0 + 1))
  unfolding m
  one_counted ascending below =
      grind (arith, length-set, cases_eq, get_or-set_same, uncounted, this_node, get_or-set_other, other_node)

  -- the member is none of the nodes
  pub one_skipped : length old ≤ get_or members i 0 → IsCounted (take (i + 1) members) old counts
  unfolding m
  one_skipped over = search (rules, other_node)

-- ---- one cluster more

length_more : (test : ℕ → Bool) (c : ℕ) → length (sift test 0 (c + 1)) ≡ length (sift test 0 c) + cond (test c) 1 0
length_more test c = grind (arith, length-passing-add, zero-add, length-cond, add-zero)

pub cluster_counted : (clusters : List PlanCluster) (number : ℕ) {members old new : List ℕ}
    → members ≡ (cluster_in clusters number).members → AreCounts clusters number old → IsCounted members old new
    → AreCounts clusters (number + 1) new
cluster_counted clusters number {members} {old} is before counted v below = grind (arith, length_more)

pub counts_few : (clusters : List PlanCluster) (number top : ℕ) (counts : List ℕ) → AreCounts clusters number counts
    → number ≤ top → All (λ count. count ≤ top) counts
counts_few clusters number top counts are few v d below = grind (arith, get_or_default_zero, length-passing-le)

-- ---- the sums

pub count_few : (counts : List ℕ) (i : ℕ) → i < length counts → All (λ count. count ≤ 1024) counts
    → get_or counts i 0 ≤ 1024
count_few counts i short few = few i 0 short

pub room_made : (clusters : List PlanCluster) {n : ℕ} {counts starts : List ℕ} → length counts ≡ n
    → AreCounts clusters (length clusters) counts → AreStarts counts starts → HaveRoom n clusters starts
room_made clusters {n} {counts} {starts} long are sums = grind (arith, places_made)
