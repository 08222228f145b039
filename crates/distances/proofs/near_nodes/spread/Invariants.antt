use Rattle.std.proofs.Common.{length, replicate, take}
use Rattle.distances.specs.declared.weights.TheConstants.{FAR}
use Rattle.distances.specs.Lowering.{Among, IsLowered, OwnOffer}
use Rattle.distances.proofs.near_nodes.spread.Given as goal

abbrev pub invariant-loop-b : goal.invariant-loop-b
invariant-loop-b l = IsLowered (Among (take l.b-index l.near) OwnOffer) (replicate (length l.fn.weights) FAR) l.weights
