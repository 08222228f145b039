-- Plans of the line of four whose lowest level has other phases or other clusters, and two nodes
-- whose distance is a power of two. Key laws: `wrong_overlaps`, `wrong_matches`.
use Rattle.std.specs.Prelude.{ℕ, List, [], ◌∷◌}
use Rattle.distances.specs.Table.{DistanceTable}
use Rattle.plan_laws.specs.Examples.{line_level_0, line_of_four}
use Rattle.region_plan.specs.Plan.{PlanCluster, PlanData}
use Rattle.region_plan.specs.Regions.{readers_of}

-- a cluster of node 0 alone
abbrev pub lone_node : PlanCluster
lone_node = record { leader = 0; phase = 0; members = 0 ∷ []; weights = 0 ∷ []; depth = 0 }

-- the lowest level alone, made in so many phases, with these clusters
abbrev pub line_with : ℕ → List PlanCluster → PlanData
line_with phases clusters =
    record line_of_four {
      levels =
          record line_level_0 {
            phases = phases;
            clusters = clusters;
            readers = readers_of 4 clusters;
          }
          ∷ [];
    }

-- two nodes at distance 4
abbrev pub two_apart : DistanceTable
two_apart = record { nodes = 2; cells = 0 ∷ 4 ∷ 4 ∷ 0 ∷ [] }
