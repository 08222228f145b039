use Rattle.distances.proofs.Closing.{IsClosing}
use Rattle.distances.proofs.rows.close_rows.Given as goal

abbrev pub invariant-loop-u : goal.invariant-loop-u
invariant-loop-u l = IsClosing l.n l.width l.u l.fn.table.items l.table.items
