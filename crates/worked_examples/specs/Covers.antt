-- Clusters over four nodes, and a network of four nodes and one edge.
-- Key laws: `wrong_phases`, `wrong_tree_faults`.
use Rattle.std.specs.Prelude.{ℕ, List}
use Rattle.coarse_cover.specs.declared.cover.Cluster.{Cluster}
use Rattle.net_graph.specs.Network.{Network}
use Rattle.worked_examples.specs.Grammar.{first_edge}

-- a cluster of this phase, with these nodes
abbrev pub cluster_with : ℕ → List ℕ → Cluster
cluster_with phase nodes = record {
  first = 0;
  members = record { room = 4; members = nodes };
  phase = phase;
}

-- one edge joins nodes 0 and 1
abbrev pub one_edge : Network
one_edge = record { nodes = 4; edges = first_edge }
