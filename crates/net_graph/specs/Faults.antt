-- When a list of edges gives no graph.
-- Key law: `Graph::new` gives no other fault.
use Rattle.std.specs.Prelude.{ℕ, List, ⊤}
use Rattle.net_graph.specs.declared.edge.Edge.{Edge}
use Rattle.net_graph.specs.declared.fault.GraphFault.{GraphFault}
use Rattle.net_graph.specs.declared.fault.GraphFault.TheVariants.{Apart, OutOfMemory}
use Rattle.net_graph.specs.Network.{IsFirstApart}

-- `Apart` names the least node that no walk from node 0 reaches; memory may run out at any time
abbrev pub IsGraphFault : ℕ → List Edge → GraphFault → Type 0
IsGraphFault n edges (Apart node) = IsFirstApart n edges node
IsGraphFault n edges OutOfMemory = ⊤
