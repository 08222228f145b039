use Rattle.std.proofs.Common.{◌≡◌, length}
use Rattle.distances.proofs.arcs.degrees_of.Given as goal

abbrev pub invariant-loop-u : goal.invariant-loop-u
invariant-loop-u l = length l.degrees.items ≡ l.u
