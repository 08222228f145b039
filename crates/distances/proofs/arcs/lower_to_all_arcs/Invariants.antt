use Rattle.distances.specs.Lowering.{Below, EdgeOffer, IsLowered}
use Rattle.distances.proofs.arcs.lower_to_all_arcs.Given as goal

abbrev pub invariant-loop-u : goal.invariant-loop-u
invariant-loop-u l = IsLowered (Below l.u (EdgeOffer l.graph.edges l.n l.width)) l.initial.table l.table
