use Rattle.std.proofs.Common.{take, replicate}
use Rattle.distances.specs.declared.weights.TheConstants.{FAR}
use Rattle.distances.specs.Lowering.{Among, IsLowered, RowOffer}
use Rattle.distances.proofs.near_nodes.fold_rows.Given as goal

abbrev pub invariant-loop-a : goal.invariant-loop-a
invariant-loop-a l = IsLowered (Among (take l.a-index l.near) (RowOffer l.n l.width l.table)) (replicate l.n FAR)
    l.weights
