-- A matched plan: at each level the home of a node is read by every node within the level's radius.
-- And what the bound on the weight of finds asks of a plan beside that.
-- Key laws: `plan_is_sound` (each plan that there is is matched, and its clusters are within their
-- reach); `Plan::build` and `Plan::build_mean` give plans that bound their finds, by the clause
-- `bounding`, and `covered_plan_is_bounding` says the same of the plan of every network over either
-- covering; `plan_is_sparse` and the clause `sparse` bound the degree by the number of nodes and k,
-- `mean_plan_is_small` and the clause `small_sum` the sum of sizes.
use Rattle.std.specs.Prelude.{◌≡◌, ℕ, ◌+◌, ◌*◌, ◌^◌, ◌<◌, ◌≤◌, true, length, sum_by}
use Rattle.node_set.specs.Ascending.{has}
use Rattle.distances.specs.Table.{IsMetric}
use Rattle.region_plan.specs.Plan.{PlanCluster, PlanData, nodes_of, levels_of, top_of, distance, level_at, clusters_of, members_of, home, readers, leader, inside, threshold}
use Rattle.region_plan.specs.Coverings.{trade_off_of}
use Rattle.region_plan.specs.Regions.{clusters_with, covered_plan, mean_plan, plan_of, threshold_of}
use Rattle.region_plan.specs.declared.covering.Covering.{Covering}
use Rattle.region_plan.specs.Measures.{degree_of}
use Rattle.net_graph.specs.Network.{Network, IsNetwork}

-- each home contains its node, each node reads just the clusters that contain it, and those within
-- a level's radius read the home; a cluster has its leader, and no walk inside it is shorter than
-- the distance
pub record IsMatched (plan : PlanData) : Type 0 where
  pub some : 1 ≤ levels_of plan
  pub metric : IsMetric plan.distances
  pub first : threshold plan 0 ≡ 1
  pub homes : (i v : ℕ) → i < levels_of plan → v < nodes_of plan
      → home plan i v < clusters_of plan i
  pub held : (i v : ℕ) → i < levels_of plan → v < nodes_of plan
      → has v (members_of plan i (home plan i v)) ≡ true
  pub read : (i v : ℕ) → i < levels_of plan → v < nodes_of plan → readers plan i v
      ≡ clusters_with (level_at plan i).clusters v
  pub met : (i u v : ℕ) → i < levels_of plan → u < nodes_of plan → v < nodes_of plan
      → distance plan u v ≤ 2 ^ (level_at plan i).exponent → has (home plan i u) (readers plan i v)
      ≡ true
  pub whole : (u v : ℕ) → u < nodes_of plan → v < nodes_of plan
      → has u (members_of plan (top_of plan) (home plan (top_of plan) v)) ≡ true
  pub within : (i c v : ℕ) → i < levels_of plan → c < clusters_of plan i
      → has v (members_of plan i c) ≡ true → v < nodes_of plan
  pub led : (i c : ℕ) → i < levels_of plan → c < clusters_of plan i
      → has (leader plan i c) (members_of plan i c) ≡ true
  pub starts : (i c : ℕ) → i < levels_of plan → c < clusters_of plan i
      → inside plan i c (leader plan i c) ≡ 0
  pub far : (i c v : ℕ) → i < levels_of plan → c < clusters_of plan i → has v (members_of plan i c)
      ≡ true
      → distance plan (leader plan i c) v ≤ inside plan i c v

-- each member is within the plan's reach of its leader, inside the cluster: so many radii of the
-- level
abbrev pub IsWithinReach : PlanData → Type 0
IsWithinReach plan = (i c v : ℕ) → i < levels_of plan → c < clusters_of plan i
    → has v (members_of plan i c) ≡ true
    → inside plan i c v ≤ plan.reach * 2 ^ (level_at plan i).exponent

-- what bounds the weight of a find by its distance: the plan is matched, its levels are the powers
-- of two from 1 on, the threshold of a level above the lowest is half of its radius, clusters are
-- within their reach, and no node reads more clusters of a level than the degree
pub record BoundsFinds (plan : PlanData) : Type 0 where
  pub matched : IsMatched plan
  pub exponents : (i : ℕ) → i < levels_of plan → (level_at plan i).exponent ≡ i
  pub thresholds : (i : ℕ) → i < levels_of plan → threshold plan i ≡ threshold_of i
  pub reached : IsWithinReach plan
  pub read : (i v : ℕ) → length (readers plan i v) ≤ degree_of plan

-- few clusters overlap: the number p of a level's phases has p ^ k ≤ k ^ k * n, no node reads more
-- than p clusters of the level, and so the degree is as small
pub record HasFewReaders (plan : PlanData) : Type 0 where
  pub phases : (i : ℕ) → i < levels_of plan
      → (level_at plan i).phases ^ plan.k ≤ plan.k ^ plan.k * nodes_of plan
  pub read : (i v : ℕ) → i < levels_of plan
      → length (readers plan i v) ≤ (level_at plan i).phases
  pub degree : degree_of plan ^ plan.k ≤ plan.k ^ plan.k * nodes_of plan

-- the plans of networks are such plans
abbrev pub PlansHaveFewReaders : Type 0
PlansHaveFewReaders = (network : Network) (k : ℕ) → IsNetwork network → 1 ≤ k
    → HasFewReaders (plan_of network k)

-- the clusters of a plan are small in the sum: the sum t of the sizes of a level's clusters has t ^
-- k ≤ n ^ (k + 1)
abbrev pub HasSmallSum : PlanData → Type 0
HasSmallSum plan = (i : ℕ) → i < levels_of plan
    → sum_by (λ (c : PlanCluster). length c.members) (level_at plan i).clusters ^ plan.k
    ≤ nodes_of plan ^ (plan.k + 1)

-- the plans of networks over mean covers are such plans
abbrev pub MeanPlansHaveSmallSums : Type 0
MeanPlansHaveSmallSums = (network : Network) (k : ℕ) → IsNetwork network → 1 ≤ k
    → HasSmallSum (mean_plan network k)

-- the plans of networks over every covering bound their finds
abbrev pub CoveredPlansBoundFinds : Type 0
CoveredPlansBoundFinds = (covering : Covering) (network : Network) → IsNetwork network
    → 1 ≤ trade_off_of covering → BoundsFinds (covered_plan covering network)

-- and so do the plans of networks
abbrev pub PlansBoundFinds : Type 0
PlansBoundFinds = (network : Network) (k : ℕ) → IsNetwork network → 1 ≤ k
    → BoundsFinds (plan_of network k)
