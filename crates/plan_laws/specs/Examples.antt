-- The line of four nodes, 0 - 1 - 2 - 3 with weights of 1, and its plans with the trade-off 2, in
-- phases and over mean covers: three levels, of which the lowest has two clusters.
-- Key laws: `line_has_its_plan` and `line_has_its_mean_plan` (they are the plans of its network,
-- and bound their finds, so that what is said of such plans is said of some).
use Rattle.std.specs.Prelude.{ℕ, List, [], ◌∷◌}
use Rattle.net_graph.specs.declared.edge.Edge.{Edge}
use Rattle.net_graph.specs.Network.{Network}
use Rattle.net_graph.specs.Walks.{make_edge}
use Rattle.distances.specs.Table.{DistanceTable}
use Rattle.region_plan.specs.Plan.{PlanCluster, Level, PlanData}
use Rattle.region_plan.specs.Regions.{readers_of}
use Rattle.region_plan.specs.Settings.{setting_of}
use Rattle.directory.specs.Settings.{Setting}
use Rattle.directory.specs.Courses.{Step}
use Rattle.directory.specs.Finds.{FindCall}
use Rattle.directory.specs.Orders.{Scripts}

-- its network
abbrev pub line_edges : List Edge
line_edges = make_edge 0 1 1 ∷ make_edge 1 2 1 ∷ make_edge 2 3 1 ∷ []

-- the line of four as a network
abbrev pub line_network : Network
line_network = record { nodes = 4; edges = line_edges }

-- the distances on the line
abbrev pub line_table : DistanceTable
line_table = record {
  nodes = 4;
  cells =
      0 ∷ 1 ∷ 2 ∷ 3 ∷ 1 ∷ 0 ∷ 1 ∷ 2 ∷ 2 ∷ 1 ∷ 0 ∷ 1 ∷ 3 ∷ 2 ∷ 1 ∷ 0 ∷ [];
}

-- all four nodes, from node 0
abbrev pub whole_line : PlanCluster
whole_line = record {
  leader = 0;
  phase = 0;
  members = 0 ∷ 1 ∷ 2 ∷ 3 ∷ [];
  weights =
      0 ∷ 1 ∷ 2 ∷ 3 ∷ [];
  depth = 3;
}

-- the last two nodes, from node 3
abbrev pub end_of_line : PlanCluster
end_of_line = record {
  leader = 3;
  phase = 1;
  members = 2 ∷ 3 ∷ [];
  weights = 1 ∷ 0 ∷ [];
  depth =
      1;
}

-- the lowest level, where node 3 has the end of the line as its home
abbrev pub line_level_0 : Level
line_level_0 = record {
  exponent = 0;
  threshold = 1;
  phases = 2;
  clusters =
      whole_line ∷ end_of_line ∷ [];
  homes = 0 ∷ 0 ∷ 0 ∷ 1 ∷ [];
  readers =
      readers_of 4 (whole_line ∷ end_of_line ∷ []);
}

-- a higher level, with one cluster
abbrev pub line_level : ℕ → ℕ → Level
line_level exponent threshold =
    record {
      exponent = exponent;
      threshold = threshold;
      phases = 1;
      clusters = whole_line ∷ [];
      homes = 0 ∷ 0 ∷ 0 ∷ 0 ∷ [];
      readers = readers_of 4 (whole_line ∷ []);
    }

-- the plan
abbrev pub line_of_four : PlanData
line_of_four = record {
  k = 2;
  reach = 3;
  distances = line_table;
  levels =
      line_level_0 ∷ line_level 1 1 ∷ line_level 2 2 ∷ [];
}

-- the last two nodes in a cover of one phase
abbrev pub mean_end_of_line : PlanCluster
mean_end_of_line = record {
  leader = 3;
  phase = 0;
  members = 2 ∷ 3 ∷ [];
  weights = 1 ∷ 0 ∷ [];
  depth = 1;
}

-- the lowest level over mean covers
abbrev pub mean_line_level_0 : Level
mean_line_level_0 = record {
  exponent = 0;
  threshold = 1;
  phases = 1;
  clusters = whole_line ∷ mean_end_of_line ∷ [];
  homes = 0 ∷ 0 ∷ 0 ∷ 1 ∷ [];
  readers = readers_of 4 (whole_line ∷ mean_end_of_line ∷ []);
}

-- the plan over mean covers
abbrev pub mean_line_of_four : PlanData
mean_line_of_four = record {
  k = 2;
  reach = 5;
  distances = line_table;
  levels = mean_line_level_0 ∷ line_level 1 1 ∷ line_level 2 2 ∷ [];
}

-- the line with its plan, and one subscriber that starts at node 3
abbrev pub line_setting : Setting
line_setting = setting_of line_of_four (3 ∷ [])

-- one subscriber that makes these steps, and one caller that makes these finds
abbrev pub line_scripts : List Step → List FindCall → Scripts
line_scripts steps finds = record { steps = steps ∷ []; finds = finds ∷ [] }
