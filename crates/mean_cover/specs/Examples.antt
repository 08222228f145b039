-- The balls of radius 1 on the line of four nodes, 0 - 1 - 2 - 3, and the clusters of their mean
-- cover with the trade-off 2: six nodes in all, and 6 ^ 2 is at most 4 ^ 3.
-- Key law: `example_cover` (this is the cover that the definition gives).
use Rattle.std.specs.Prelude.{ℕ, List, [], ◌∷◌}
use Rattle.node_set.specs.Balls.{GrownCluster}

-- the balls
abbrev pub line_balls : List (List ℕ)
line_balls = (0 ∷ 1 ∷ []) ∷ (0 ∷ 1 ∷ 2 ∷ []) ∷ (1 ∷ 2 ∷ 3 ∷ []) ∷ (2 ∷ 3 ∷ []) ∷ []

-- all four nodes, grown once from node 0: the home of the balls of nodes 0, 1 and 2
abbrev pub line_whole : GrownCluster
line_whole = record {
  first = 0;
  growths = 1;
  homed = 0 ∷ 1 ∷ 2 ∷ [];
  members = 0 ∷ 1 ∷ 2 ∷ 3 ∷ [];
}

-- the last two nodes: the home of the ball of node 3
abbrev pub line_end : GrownCluster
line_end = record { first = 3; growths = 1; homed = 3 ∷ []; members = 2 ∷ 3 ∷ [] }
