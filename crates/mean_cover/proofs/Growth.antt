-- Growth of one cluster: fewer than k growths come before the last.
use Rattle.std.proofs.Common.{◌≡◌, inl, inr, ℕ, suc, ◌*◌, ◌^◌, ◌<◌, ◌≤◌, true, false, List, ◌∷◌, length, refl, sym, ◌∙◌, arith}
use Rattle.std.proofs.lemmas.Bool.{cases_lt, false≢true, leb-true, leb-false, le-leb, lt-leb}
use Rattle.std.proofs.Math.Nat.{lt_of_not-le}
use Rattle.node_set.specs.Balls.{AreInside, growth, least, union_of}
use Rattle.node_set.specs.BallLaws.{HoldCentres, growth_leader, least_first, least_is, least_passes, union_has, union_size}
use Rattle.node_set.specs.FilterLaws.{some_length}
use Rattle.node_set.specs.SetLaws.{has_head}
use Rattle.whole_powers.specs.PowerLaws.{outgrows}
use Rattle.mean_cover.specs.Covering.{is_last, mean_cluster, size_after}

module _ (balls : List (List ℕ)) (k a : ℕ) (waiting : List ℕ) (j : ℕ) where
  not_last_means : is_last balls k waiting a j ≡ false
      → length balls * size_after balls waiting a j ^ k < size_after balls waiting a (suc j) ^ k
  unfolding is_last
  not_last_means h = grind (arith, leb-false)

  pub last_means : is_last balls k waiting a j ≡ true
      → size_after balls waiting a (suc j) ^ k ≤ length balls * size_after balls waiting a j ^ k
  unfolding is_last
  last_means h = grind (arith, leb-true)

  pub last_is : size_after balls waiting a (suc j) ^ k ≤ length balls * size_after balls waiting a j ^ k
      → is_last balls k waiting a j ≡ true
  unfolding is_last
  last_is h = grind (arith, le-leb)

  pub not_last_is : (size_after balls waiting a (suc j) ^ k ≤ length balls * size_after balls waiting a j ^ k → ⊥)
      → is_last balls k waiting a j ≡ false
  unfolding is_last
  not_last_is h = grind (arith, lt-leb, lt_of_not-le)

-- as long as no growth is the last, the number of nodes, to the power k, is above the power of n
pub growths_few : (balls : List (List ℕ)) (k a : ℕ) (rest : List ℕ) → 0 < k → HoldCentres balls (a ∷ rest)
    → AreInside balls → least (is_last balls k (a ∷ rest) a) k < k
growths_few balls k a rest low hold inside =
    elim (cases_lt (least (is_last balls k (a ∷ rest) a) k) k) [
      | inl few ↦ few
      | inr many ↦
          let own = hold a (has_head a rest) in
          let some : 0 < size_after balls (a ∷ rest) a 0 =
          some_length a (union_of balls (growth balls (a ∷ rest) a 0))
          (union_has balls a a (growth balls (a ∷ rest) a 0) (growth_leader balls a rest hold 0) own)
          in
          let below : a < length balls = inside a a own in
          absurd (omega (
            arith,
            union_size balls (growth balls (a ∷ rest) a k) inside,
            outgrows (size_after balls (a ∷ rest) a) k (length balls) (omega (arith, below))
                (omega (arith, some)) low
                (λ i h. not_last_means balls k a (a ∷ rest) i
                (least_first (is_last balls k (a ∷ rest) a) k i (omega arith))),
          ))
    ]

-- ---- what the loop that grows a cluster needs

module _ (balls : List (List ℕ)) (k a : ℕ) (waiting : List ℕ) where
  pub cluster_homed : (mean_cluster balls k waiting a).homed
      ≡ growth balls waiting a (suc (least (is_last balls k waiting a) k))
  unfolding mean_cluster
  cluster_homed = refl

  pub cluster_members : (mean_cluster balls k waiting a).members
      ≡ union_of balls (growth balls waiting a (suc (least (is_last balls k waiting a) k)))
  unfolding mean_cluster
  cluster_members = refl

  pub some_last : (rest : List ℕ) → waiting ≡ a ∷ rest → 0 < k → HoldCentres balls waiting → AreInside balls
      → ((i : ℕ) → i < k → is_last balls k waiting a i ≡ false) → ⊥
  some_last rest leads low hold inside none =
      let few : least (is_last balls k waiting a) k < k =
      rw leads (growths_few balls k a rest low (rw leads at hold) inside)
      in
      false≢true (sym (none (least (is_last balls k waiting a) k) few)
      ∙ least_passes (is_last balls k waiting a) k few)

  module _ (j more size : ℕ) (counted : more ≡ size_after balls waiting a (suc j))
      (sized : size ≡ size_after balls waiting a j) where
    pub stops : j < k → ((i : ℕ) → i < j → is_last balls k waiting a i ≡ false) → more ^ k ≤ length balls * size ^ k
        → least (is_last balls k waiting a) k ≡ j
    stops below none fits =
        least_is (is_last balls k waiting a) k j below
        (last_is balls k a waiting j (rw (counted, sized) at fits)) none

    pub goes_on : ((i : ℕ) → i < j → is_last balls k waiting a i ≡ false) → (more ^ k ≤ length balls * size ^ k → ⊥)
        → (i : ℕ) → i < suc j → is_last balls k waiting a i ≡ false
    goes_on none large i h =
        elim (cases_lt i j) [
          | inl before ↦ none i before
          | inr now ↦
              let same : i ≡ j = omega arith in
              rw same (not_last_is balls k a waiting j (λ fits. large (rw (counted, sized) fits)))
        ]
