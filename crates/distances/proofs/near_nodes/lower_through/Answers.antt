use Rattle.distances.proofs.Chunks.{span_is_row}
use Rattle.distances.proofs.near_nodes.lower_through.Goals as goal

pub returns : goal.returns
returns c = span_is_row c.args.n c.args.width c.args.table.now c.args.near c.lower_span.ensures
