-- What is read has the nodes and edges of a network, connected or not.
-- Key law: `Reader::end` makes an input of such alone, so that it has a graph.
use Rattle.std.specs.Prelude.{◌≤◌, All}
use Rattle.net_graph.specs.Network.{IsEdge}
use Rattle.net_reader.specs.Said.{Said}

-- there is a node, and few, and each edge joins two of them
pub record IsSound (said : Said) : Type 0 where
  pub some : 1 ≤ said.nodes
  pub few : said.nodes ≤ 1024
  pub edges : All (IsEdge said.nodes) said.edges
