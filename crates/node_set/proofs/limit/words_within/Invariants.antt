use Rattle.std.proofs.Common.{◌*◌}
use Rattle.node_set.specs.Limits.{AreWithin}
use Rattle.node_set.proofs.limit.words_within.Given as goal

abbrev pub invariant-loop-block : goal.invariant-loop-block
invariant-loop-block l = AreWithin l.numbers l.limit (64 * l.block) l.words.items
