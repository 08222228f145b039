use Rattle.std.proofs.Common.{◌*◌, take}
use Rattle.node_set.specs.Limits.{AreWithin}
use Rattle.node_set.proofs.bytes.fill_words.Given as goal

abbrev pub invariant-loop-block : goal.invariant-loop-block
invariant-loop-block l = AreWithin l.bytes l.limit (64 * l.block) (take l.block l.words)
