use Rattle.std.proofs.Common.{◌≡◌, suc, drop}
use Rattle.track_c.specs.Edges.{first_fault}
use Rattle.track_c.proofs.edges.fault_among.Given as goal

abbrev pub invariant-loop-at : goal.invariant-loop-at
invariant-loop-at l = first_fault l.nodes 1 l.edges ≡ first_fault l.nodes (suc l.at) (drop l.at l.edges)
