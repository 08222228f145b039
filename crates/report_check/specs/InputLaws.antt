-- The network of a valid input is one that has a plan, for the proofs of the crates above.
-- Key law: `network-valid`.
use Rattle.std.proofs.Common.{arith}
use Rattle.net_graph.specs.Network.{IsNetwork}
use Rattle.net_reader.specs.Input.{Contents}
use Rattle.net_reader.specs.LineLaws.{most_nodes-within}
use Rattle.net_reader.specs.Valid.{IsValid}
use Rattle.report_check.specs.Inputs.{network_of}

-- the network of a valid input is one within the limits
pub network-valid : {contents : Contents} → IsValid contents → IsNetwork (network_of contents)
network-valid {contents} valid = record {
  limits = record {
    positive = valid.some;
    few = omega (arith, valid.few, most_nodes-within contents.format);
    edges = valid.edges;
  };
  connected = valid.connected;
}
