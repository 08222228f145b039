-- The network of an input, and its plan, over which its reports are judged.
-- Key law: `network-valid` (the network of a valid input is one within the limits).
use Rattle.net_graph.specs.Network.{Network}
use Rattle.net_reader.specs.Input.{Contents}
use Rattle.region_plan.specs.Plan.{PlanData}
use Rattle.region_plan.specs.Regions.{plan_of}

-- the network of an input
abbrev pub network_of : Contents → Network
network_of contents = record { nodes = contents.nodes; edges = contents.edges }

-- the plan of an input's network, with its k
abbrev pub plan_for : Contents → PlanData
plan_for contents = plan_of (network_of contents) contents.k
