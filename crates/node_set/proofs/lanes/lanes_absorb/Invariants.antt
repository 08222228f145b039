use Rattle.std.proofs.Common.{◌*◌}
use Rattle.node_set.specs.Lanes.{AreWordsJoinedWithin}
use Rattle.node_set.proofs.lanes.lanes_absorb.Given as goal

abbrev pub invariant-loop-block : goal.invariant-loop-block
invariant-loop-block l = AreWordsJoinedWithin l.fn.a l.b l.a 0 (4 * l.block)
