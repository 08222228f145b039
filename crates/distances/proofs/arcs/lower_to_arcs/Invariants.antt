use Rattle.std.proofs.Common.{take}
use Rattle.distances.specs.Lowering.{Among, ArcOffer, IsLowered}
use Rattle.distances.proofs.arcs.lower_to_arcs.Given as goal

abbrev pub invariant-loop-arc : goal.invariant-loop-arc
invariant-loop-arc l = IsLowered (Among (take l.arc-index l.arcs) (ArcOffer l.width l.u)) l.initial.table l.table
