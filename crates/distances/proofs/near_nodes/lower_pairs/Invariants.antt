use Rattle.std.proofs.Common.{take}
use Rattle.distances.specs.Lowering.{Among, IsLowered, PairOffer}
use Rattle.distances.proofs.near_nodes.lower_pairs.Given as goal

abbrev pub invariant-loop-a : goal.invariant-loop-a
invariant-loop-a l = IsLowered (Among (take l.a-index l.near) (λ a. Among l.near (PairOffer l.width a))) l.initial.table
    l.table
