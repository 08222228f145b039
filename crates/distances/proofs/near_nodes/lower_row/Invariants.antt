use Rattle.std.proofs.Common.{take}
use Rattle.distances.specs.Lowering.{Among, IsLowered, PairOffer}
use Rattle.distances.proofs.near_nodes.lower_row.Given as goal

abbrev pub invariant-loop-b : goal.invariant-loop-b
invariant-loop-b l = IsLowered (Among (take l.b-index l.near) (PairOffer l.width l.a)) l.initial.table l.table
