-- The clusters that contain each node, while they are counted and written, and the weights inside
-- them. Only the private functions of this crate speak of them.
-- Key law: `ReaderLists::new` lays them as the plan has them (`IsTable`).
use Rattle.std.specs.Prelude.{◌≡◌, ℕ, ◌+◌, ◌<◌, List, cond, length, slice_index}
use Rattle.net_graph.specs.Starts.{AreFilled, HavePlaces}
use Rattle.node_set.specs.Ascending.{has, sift}
use Rattle.region_plan.specs.Kept.{weights_beside}
use Rattle.region_plan.specs.Plan.{PlanCluster, cluster_in}
use Rattle.region_plan.specs.Regions.{clusters_with}

-- the ascending numbers of those of the first so many clusters that contain v
abbrev pub readers_below : List PlanCluster → ℕ → ℕ → List ℕ
readers_below clusters count v = sift (λ c. has v (cluster_in clusters c).members) 0 count

-- how many of the first so many clusters contain each node
abbrev pub AreCounts : List PlanCluster → ℕ → List ℕ → Type 0
AreCounts clusters count counts = (v : ℕ) → v < length counts
    → slice_index counts v ≡ length (readers_below clusters count v)

-- each of these nodes is counted once more
pub record IsCounted (members old new : List ℕ) : Type 0 where
  pub count : length new ≡ length old
  pub each : (v : ℕ) → v < length old
      → slice_index new v ≡ slice_index old v + cond (has v members) 1 0

-- from its start on each of n nodes has as many places as clusters contain it
abbrev pub HaveRoom : ℕ → List PlanCluster → List ℕ → Type 0
HaveRoom n clusters starts = HavePlaces n (λ v. length (clusters_with clusters v)) starts

-- the first so many readers of each node are written, and the weights beside them
pub record AreWritten (clusters : List PlanCluster) (starts taken readers weights : List ℕ) :
    Type 0 where
  pub numbers : AreFilled (clusters_with clusters) starts taken readers
  pub beside : AreFilled (weights_beside clusters) starts taken weights
