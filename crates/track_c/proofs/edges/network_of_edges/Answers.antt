use Rattle.std.proofs.Common.{sym}
use Rattle.track_c.proofs.EdgeLaws.{edges-sound}
use Rattle.track_c.proofs.edges.network_of_edges.Goals as goal

pub graph_of-requires-clause-edges : goal.graph_of-requires-clause-edges
graph_of-requires-clause-edges c =
    edges-sound c.args.nodes c.args.k c.args.edges.now (sym c.in_default.ensures)
