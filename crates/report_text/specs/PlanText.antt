-- The text of a plan: a line that measures it, then level by level its clusters with their members
-- and the homes of the nodes, then `end`. Distances, thresholds and readers aren't in it, and of
-- the weights inside a cluster it tells the greatest.
-- Key law: `plan_text` (it gives this text, byte for byte).
use Rattle.std.specs.Prelude.{ℕ, ◌+◌, ◌^◌, List, [], ◌∷◌, length, codes}
use Rattle.region_plan.specs.Plan.{PlanCluster, Level, PlanData, nodes_of, levels_of}
use Rattle.region_plan.specs.Measures.{degree_of, stretch_of}
use Rattle.outside.specs.Texts.{◌then◌, field, fields}

-- what stands before the members of a cluster, with its number
abbrev pub cluster_head : ℕ → PlanCluster → List ℕ
cluster_head c cluster =
    codes "cluster" then field c then codes " phase" then field cluster.phase
    then codes " leader" then field cluster.leader then codes " depth" then field cluster.depth
    then codes " members"

-- the line of a cluster, with its number; a plan lists the members in ascending order
abbrev pub cluster_line : ℕ → PlanCluster → List ℕ
cluster_line c cluster = cluster_head c cluster then fields cluster.members then 10 ∷ []

-- the lines of clusters, numbered from this one on
unfoldable pub clusters_text : ℕ → List PlanCluster → List ℕ
clusters_text c [] = []
clusters_text c (cluster ∷ clusters) = cluster_line c cluster then clusters_text (c + 1) clusters

-- the line that begins a level
abbrev pub level_line : ℕ → Level → List ℕ
level_line i level =
    codes "level" then field i then codes " radius" then field (2 ^ level.exponent)
    then codes " clusters" then field (length level.clusters)
    then codes " phases" then field level.phases then 10 ∷ []

-- the line of the homes
abbrev pub homes_line : Level → List ℕ
homes_line level = codes "homes" then fields level.homes then 10 ∷ []

-- a level's lines
abbrev pub level_text : ℕ → Level → List ℕ
level_text i level = level_line i level then clusters_text 0 level.clusters then homes_line level

-- the lines of levels, numbered from this one on
unfoldable pub levels_text : ℕ → List Level → List ℕ
levels_text i [] = []
levels_text i (level ∷ levels) = level_text i level then levels_text (i + 1) levels

-- the line that measures a plan
abbrev pub plan_line : PlanData → List ℕ
plan_line plan =
    codes "plan nodes" then field (nodes_of plan) then codes " k" then field plan.k
    then codes " levels" then field (levels_of plan)
    then codes " degree" then field (degree_of plan)
    then codes " stretch" then field (stretch_of plan) then 10 ∷ []

-- the text of a plan
abbrev pub plan_text_of : PlanData → List ℕ
plan_text_of plan = plan_line plan then levels_text 0 plan.levels then codes "end" then 10 ∷ []
