use Rattle.node_set.specs.Lanes.{AreWordsJoinedWithin}
use Rattle.node_set.proofs.lanes.absorb_rest.Given as goal

abbrev pub invariant-loop-i : goal.invariant-loop-i
invariant-loop-i l = AreWordsJoinedWithin l.fn.a l.b l.a l.from l.i
