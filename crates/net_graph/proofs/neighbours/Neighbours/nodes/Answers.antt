use Rattle.std.proofs.Common.{arith}
use Rattle.net_graph.proofs.Rows.{laid_out_limits}
use Rattle.net_graph.proofs.neighbours.Neighbours.nodes.Goals as goal

pub returns-clause-limits : goal.returns-clause-limits
returns-clause-limits c = grind (arith, laid_out_limits c.self.invariant)
