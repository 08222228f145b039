-- The table of a network's distances has the least weights of walks, and is a metric.
use Rattle.std.proofs.Common.{rules, ◌≡◌, ℕ, ◌*◌, ◌/◌, ◌%◌, ◌<◌, length}
use Rattle.std.proofs.lemmas.Nat.{mul-add-lt, div-mul-add, mod-mul-add}
use Rattle.net_graph.specs.Walks.{everywhere}
use Rattle.net_graph.specs.LeastWeights.{LeastWeightsAreBounded, LeastWeightsAreFound, least_weight}
use Rattle.net_graph.specs.Network.{Network, IsNetwork}
use Rattle.node_set.specs.BallLaws.{get_or-map_centres, length-map_centres}
use Rattle.distances.specs.NodesLeftOut.{AreLeast}
use Rattle.distances.specs.Rows.{AreRowsOf}
use Rattle.distances.specs.Table.{NetworksHaveDistances, dist, table_of}
use Rattle.distances.proofs.Filling.{distances, metric}
use Rattle.distances.proofs.Lengths.{bounded, least_there}

module _ (bounds : LeastWeightsAreBounded) (network : Network) (sound : IsNetwork network)
    (least : AreLeast network (least_weight network everywhere)) where
  abbrev n : ℕ
  n = network.nodes

  abbrev d : ℕ → ℕ → ℕ
  d = least_weight network everywhere

  count : length (table_of network).cells ≡ n * n
  count = length-map_centres (λ i. d (i / n) (i % n)) (n * n)

  cell_is : (u v : ℕ) → u < n → v < n → dist (table_of network) u v ≡ d u v
  cell_is u v u_below v_below = search (rules, get_or-map_centres, mul-add-lt, div-mul-add, mod-mul-add)

  rows : AreRowsOf network (table_of network).cells
  rows = record {
    count = count;
    each = λ u v u_below v_below. rw (cell_is u v u_below v_below) (least u v u_below v_below);
    bounded = λ u v u_below v_below.
        rw (cell_is u v u_below v_below) (bounded network sound d least bounds u v u_below v_below);
  }

pub has_distances : LeastWeightsAreFound → LeastWeightsAreBounded → NetworksHaveDistances
has_distances found bounds network sound = search (rules, rows, least_there, distances, metric)
