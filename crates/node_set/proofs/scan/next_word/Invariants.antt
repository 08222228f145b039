use Rattle.std.proofs.Common.{◌≡◌, ℕ, ◌<◌, ◌≤◌, ◌*◌, false}
use Rattle.node_set.specs.Ascending.{has}
use Rattle.node_set.specs.Nodes.{set_bits}
use Rattle.node_set.proofs.scan.next_word.Given as goal

abbrev pub invariant-loop-i : goal.invariant-loop-i
invariant-loop-i l = (x : ℕ) → l.from ≤ x → x < 64 * l.i → has x (set_bits l.words) ≡ false
