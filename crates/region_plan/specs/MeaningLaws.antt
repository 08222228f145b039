-- Laws of what the parts of a plan mean: the top level and the depth of a cluster are one.
-- Key laws: `tops_are_one`, `depths_are_one`.
use Rattle.std.proofs.Common.{◌≡◌, ℕ, ◌<◌, inl, inr, arith}
use Rattle.std.proofs.lemmas.Bool.{cases_lt}
use Rattle.distances.specs.Table.{DistanceTable}
use Rattle.cluster_tree.specs.Tree.{WeighedCluster, IsDepth}
use Rattle.region_plan.specs.Meanings.{IsTop}

no_later : (table : DistanceTable) (s t : ℕ) → IsTop table s → IsTop table t → s < t → ⊥
no_later table s t one two later =
    let at = two.greatest.attained in
    omega (
      arith,
      two.least s later,
      one.enough,
      one.greatest.greatest at.from at.to at.from_below at.to_below,
      at.far,
    )

-- two top levels are one
pub tops_are_one : (table : DistanceTable) (s t : ℕ) → IsTop table s → IsTop table t → s ≡ t
tops_are_one table s t one two = elim (cases_lt s t) [
  | inl less ↦ absurd (no_later table s t one two less)
  | inr more ↦ elim (cases_lt t s) [
    | inl less ↦ absurd (no_later table t s two one less)
    | inr same ↦ omega arith
  ]
]

-- and so are two depths
pub depths_are_one : (cluster : WeighedCluster) (d e : ℕ) → IsDepth cluster d → IsDepth cluster e
    → d ≡ e
depths_are_one cluster d e one two =
    omega (
      arith,
      one.attained.far,
      two.attained.far,
      one.greatest two.attained.node two.attained.member,
      two.greatest one.attained.node one.attained.member,
    )
