use Rattle.std.proofs.Common.{◌≡◌, ℕ, ◌*◌, ◌<◌, get_or}
use Rattle.std.specs.Prelude.{bit_and}
use Rattle.node_set.proofs.lanes.lanes_meet.Given as goal

abbrev pub invariant-loop-block : goal.invariant-loop-block
invariant-loop-block l = (k : ℕ) → k < 4 * l.block → bit_and (get_or l.a k 0) (get_or l.b k 0) ≡ 0
