-- Growth of one cluster: fewer than k growths are enough.
use Rattle.std.proofs.Common.{◌≡◌, inl, inr, ℕ, suc, ◌*◌, ◌^◌, ◌<◌, ◌≤◌, true, false, List, ◌∷◌, length, filter, refl, ap, arith}
use Rattle.std.proofs.lemmas.Bool.{cases_lt, false≢true, leb-true, leb-false, le-leb, lt-leb}
use Rattle.std.proofs.Math.Nat.{lt_of_not-le}
use Rattle.node_set.specs.Balls.{union_of, touches, growth, least}
use Rattle.node_set.specs.BallLaws.{growth_size, growth_first, least_passes, least_first, least_is}
use Rattle.node_set.specs.GrowthLaws.{reached}
use Rattle.whole_powers.specs.PowerLaws.{outgrows}
use Rattle.coarse_cover.specs.Coarsening.{is_enough, cluster_of}

-- ---- fewer than k growths are enough

module _ (balls : List (List ℕ)) (k r a : ℕ) (rest : List ℕ) where
  pub enough_means : (j : ℕ) → is_enough balls k r (a ∷ rest) a j ≡ true
      → length (growth balls (a ∷ rest) a (suc j)) ^ k ≤ r * length (growth balls (a ∷ rest) a j) ^ k
  unfolding is_enough
  enough_means j h = leb-true _ _ h

  first_size : length (growth balls (a ∷ rest) a 0) ≡ 1
  first_size = ap length (growth_first balls (a ∷ rest) a)

  pub growths_few : 0 < k → length (a ∷ rest) ≤ r → least (is_enough balls k r (a ∷ rest) a) k < k
  unfolding is_enough
  growths_few pos fits =
      elim (cases_lt (least (is_enough balls k r (a ∷ rest) a) k) k) [
        | inl few ↦ few
        | inr many ↦ absurd (omega (
          arith,
          growth_size balls a rest k,
          outgrows (λ j. length (growth balls (a ∷ rest) a j)) k r (omega arith) (omega (arith, first_size)) pos
              (λ i h. leb-false _ _ (least_first (is_enough balls k r (a ∷ rest) a) k i (omega arith))),
        ))
      ]

-- ---- what the loop that grows a cluster needs

pub cluster_homed : (balls : List (List ℕ)) (k r a : ℕ) (waiting : List ℕ) → (cluster_of balls k r waiting a).homed
    ≡ growth balls waiting a (least (is_enough balls k r waiting a) k)
unfolding cluster_of
cluster_homed balls k r a waiting = refl

pub cluster_members : (balls : List (List ℕ)) (k r a : ℕ) (waiting : List ℕ) → (cluster_of balls k r waiting a).members
    ≡ union_of balls (growth balls waiting a (least (is_enough balls k r waiting a) k))
unfolding cluster_of
cluster_members balls k r a waiting = refl

module _ (balls : List (List ℕ)) (k r a : ℕ) (waiting rest : List ℕ) (leads : waiting ≡ a ∷ rest) where
  pub some_enough : 0 < k → length waiting ≤ r → ((i : ℕ) → i < k → is_enough balls k r waiting a i ≡ false) → ⊥
  some_enough pos fits none =
      let few : least (is_enough balls k r waiting a) k < k =
      rw leads (growths_few balls k r a rest pos (rw leads at fits)) in
      grind (arith, false≢true, least_passes)

-- the step of the loop: the marks are those of one growth more, which is tested by their number
module _ (balls : List (List ℕ)) (k r a : ℕ) (waiting : List ℕ) (j more size : ℕ) (nodes marks : List ℕ)
    (union : nodes ≡ union_of balls (growth balls waiting a j)) (touched : marks ≡ filter (touches balls nodes) waiting)
  where
    next : marks ≡ growth balls waiting a (suc j)
    next = reached balls a waiting j nodes marks union touched

    module _ (counted : more ≡ length marks) (sized : size ≡ length (growth balls waiting a j)) where
      pub stops : j < k → ((i : ℕ) → i < j → is_enough balls k r waiting a i ≡ false) → more ^ k ≤ r * size ^ k
          → least (is_enough balls k r waiting a) k ≡ j
      unfolding is_enough
      stops below none fits =
          least_is (is_enough balls k r waiting a) k j below (le-leb _ _ (rw (counted, next, sized) at fits)) none

      pub goes_on : ((i : ℕ) → i < j → is_enough balls k r waiting a i ≡ false) → (more ^ k ≤ r * size ^ k → ⊥)
          → (i : ℕ) → i < suc j → is_enough balls k r waiting a i ≡ false
      unfolding is_enough
      goes_on none large i h =
          elim (cases_lt i j) [
            | inl before ↦ none i before
            | inr here ↦
                let same : i ≡ j = omega arith in
                rw same (lt-leb _ _ (lt_of_not-le (λ fits. large (rw (counted, next, sized) fits))))
          ]
