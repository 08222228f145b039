-- A cluster that has each node that is no farther than a member keeps distances: least walks stay inside.
use Rattle.std.proofs.Common.{◌≡◌, ℕ, zero, suc, ◌+◌, ◌<◌, ◌≤◌, Bool, true, false, cond, List, [], ◌∷◌, length, take, refl, sym, ◌∙◌, ap, subst, inl, inr, arith}
use Rattle.std.specs.Prelude.{All, slice_index, slice_index_or, nat_lt}
use Rattle.std.proofs.lemmas.Bool.{cases_Bool, cases_lt, false≢true, lt-ltb, le-ltb}
use Rattle.std.proofs.lemmas.List.{length-append, take_more}
use Rattle.std.proofs.lemmas.List.Elements.{All-contains, All-append, All-cons}
use Rattle.net_graph.specs.Walks.{Step, IsWalk, IsWalkWeight, everywhere, weight_of}
use Rattle.net_graph.specs.WalkLaws.{join_edge, walk_further}
use Rattle.net_graph.specs.Network.{Network, IsNetwork}
use Rattle.net_graph.specs.Trees.{AreDistancesFrom}
use Rattle.node_set.specs.Ascending.{has, IsAscending, sift}
use Rattle.node_set.specs.SetLaws.{same_members, ascending-passing, has-passing, passing_over, passing_takes, passing_skips}
use Rattle.cluster_tree.specs.Tree.{within}
use Rattle.cluster_tree.specs.Inside.{KeepDistances, IsRound, count_within}
use Rattle.cluster_tree.proofs.Joining.{has_contained, walk_anywhere}

-- ---- as many that pass one test as pass another

longer : (p q : ℕ → Bool) (v k : ℕ) → ((x : ℕ) → v ≤ x → x < v + k → p x ≡ true → q x ≡ true)
    → length (sift p v k) ≤ length (sift q v k)
longer p q v zero follows = omega arith
longer p q v (suc k) follows =
    grind (arith, longer p q (suc v) k (λ x low high. follows x (omega (arith, low)) (omega (arith, high))), false≢true)

-- where no fewer pass the first test, each that passes the second passes the first
as_many : (p q : ℕ → Bool) (v k : ℕ) → ((x : ℕ) → v ≤ x → x < v + k → p x ≡ true → q x ≡ true)
    → length (sift q v k) ≤ length (sift p v k) → (x : ℕ) → v ≤ x → x < v + k → q x ≡ true → p x ≡ true
as_many p q v zero follows count x low high passes = absurd (omega (arith, low, high))
as_many p q v (suc k) follows count x low high passes =
    at (p v) (q v) refl refl (follows v (omega arith) (omega arith))
    (longer p q (suc v) k (λ y from to. follows y (omega (arith, from)) (omega (arith, to)))) count
    (λ fewer past. as_many p q (suc v) k (λ y from to. follows y (omega (arith, from)) (omega (arith, to))) fewer x
    past (omega (arith, high)) passes)
  where
    at : (b c : Bool) → p v ≡ b → q v ≡ c → (p v ≡ true → q v ≡ true)
        → length (sift p (suc v) k) ≤ length (sift q (suc v) k)
        → length (cond c (v ∷ sift q (suc v) k) (sift q (suc v) k))
        ≤ length (cond b (v ∷ sift p (suc v) k) (sift p (suc v) k))
        → (length (sift q (suc v) k) ≤ length (sift p (suc v) k) → suc v ≤ x → p x ≡ true) → p x ≡ true
    at true c p_is q_is h long fewer behind = elim (cases_lt v x) [
      | inl past ↦ behind (both c (sym q_is ∙ h p_is) fewer) past
      | inr here ↦ let same : x ≡ v = omega (arith, low, here) in ap p same ∙ p_is
    ]
      where
        both : (b : Bool) → b ≡ true
            → length (cond b (v ∷ sift q (suc v) k) (sift q (suc v) k)) ≤ suc (length (sift p (suc v) k))
            → length (sift q (suc v) k) ≤ length (sift p (suc v) k)
        both true is less = omega (arith, less)
        both false is less = absurd (false≢true is)
    at false true p_is q_is h long fewer behind = absurd (omega (arith, long, fewer))
    at false false p_is q_is h long fewer behind = elim (cases_lt v x) [
      | inl past ↦ behind fewer past
      | inr here ↦
          let same : x ≡ v = omega (arith, low, here) in
          absurd (false≢true (sym q_is ∙ ap q (sym same) ∙ passes))
    ]

-- ---- a round cluster

module _ (members row : List ℕ) (far : ℕ) (ascending : IsAscending members)
    (below : All (λ v. v < length row) members) (near : All (λ v. slice_index row v ≤ far) members) where
  lies_below : (v : ℕ) → has v members ≡ true → v < length row
  lies_below v member = All-contains (λ x. x < length row) members v below (has_contained v members member)

  lies_near : (v : ℕ) → has v members ≡ true → slice_index row v ≤ far
  lies_near v member = All-contains (λ x. slice_index row x ≤ far) members v near (has_contained v members member)

  abbrev is_member : ℕ → Bool
  is_member v = has v members

  none_past : (v : ℕ) → length row ≤ v → has v members ≡ false
  none_past v past = grind (arith, cases_Bool, lies_below)

  listed : sift is_member 0 (length row) ≡ members
  listed = grind (arith, ascending-passing, cases_lt, has-passing, passing_over, none_past, same_members)

  pub round_by_count : count_within row far ≡ length members → IsRound members row
  round_by_count count u v inside member nearer =
      as_many is_member (λ x. nat_lt (slice_index row x) (suc far)) 0 (length row)
      (λ x low high is. lt-ltb (slice_index row x) (suc far) (omega (arith, lies_near x is)))
      (omega (arith, count, ap length listed)) u (omega arith) (omega (arith, inside))
      (lt-ltb (slice_index row u) (suc far) (omega (arith, nearer, lies_near v member)))

-- one node more
pub within_takes : (row : List ℕ) (far i : ℕ) → slice_index row i ≤ far
    → length (sift (λ v. nat_lt (slice_index row v) (suc far)) 0 (i + 1))
    ≡ length (sift (λ v. nat_lt (slice_index row v) (suc far)) 0 i) + 1
within_takes row far i near = grind (arith, lt-ltb, passing_takes, length-append)

pub within_skips : (row : List ℕ) (far i : ℕ) → far < slice_index row i
    → length (sift (λ v. nat_lt (slice_index row v) (suc far)) 0 (i + 1))
    ≡ length (sift (λ v. nat_lt (slice_index row v) (suc far)) 0 i)
within_skips row far i past = grind (arith, le-ltb, passing_skips)

-- ---- least walks stay inside

module _ (network : Network) (sound : IsNetwork network) (members : List ℕ) (leader : ℕ)
    (leads : has leader members ≡ true) (row : List ℕ) (distances : AreDistancesFrom network leader row)
    (round : IsRound members row) (below : All (λ v. v < length row) members) where
  -- the rest of a least walk to a member, behind what leads to its node
  stays : (v : ℕ) → has v members ≡ true → (steps : List Step) (u w : ℕ) → u < network.nodes
      → IsWalkWeight network.edges everywhere leader u w → IsWalk network.edges everywhere u steps v
      → w + weight_of steps ≤ slice_index row v → IsWalk network.edges (within members) u steps v
  stays v member [] u w inside before walk light =
      (subst (λ x. has x members ≡ true) (sym walk.1) member, walk.1)
  stays v member (step ∷ steps) u w inside before walk light =
      let ends = join_edge network.nodes network.edges u step.node step.weight sound.limits.edges walk.1 in (
        grind arith,
        walk.1,
        stays v member steps step.node (w + step.weight) ends.1
            (walk_further network.edges everywhere leader u step.node w step.weight before refl walk.1) walk.2
            (omega (arith, light)),
      )

  lies_in : (v : ℕ) → has v members ≡ true → v < network.nodes
  lies_in v member = grind (arith, has_contained, All-contains)

  pub round_keeps : KeepDistances network members leader row
  round_keeps v member =
      let least = distances.each v (lies_in v member) in
      record {
        attained = record {
          steps = least.attained.steps;
          walk = stays v member least.attained.steps leader 0 (lies_in leader leads)
              (record { steps = []; walk = (refl, refl); sum = refl }) least.attained.walk
              (omega (arith, least.attained.sum));
          sum = least.attained.sum;
        };
        least = λ steps walk. least.least steps
            (walk_anywhere network.edges (within members) leader steps v walk);
      }

-- one member more
pub near_more : (row members : List ℕ) (i d far more : ℕ) → i < length members
    → (far ≤ more) × (slice_index row (slice_index_or members i d) ≤ more)
    → All (λ v. slice_index row v ≤ far) (take i members)
    → All (λ v. slice_index row v ≤ more) (take (i + 1) members)
near_more row members i d far more inside grown so_far = rw (take_more members i d inside)
    (All-append (λ v. slice_index row v ≤ more) (take i members) (slice_index_or members i d ∷ [])
    (λ k e short. omega (arith, grown.0, so_far k e short)) (grind (arith, All-cons)))
