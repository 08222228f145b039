use Rattle.std.proofs.Common.{rules}
use Rattle.net_graph.proofs.Rows.{read_row}
use Rattle.net_graph.proofs.neighbours.Neighbours.arcs_of.Goals as goal

pub returns : goal.returns
returns c = search (rules, read_row)
