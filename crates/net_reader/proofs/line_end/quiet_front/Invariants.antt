use Rattle.std.proofs.Common.{◌≡◌, ℕ, ◌<◌, ◌≤◌, ◌-◌, true, length, get_or}
use Rattle.net_reader.specs.Steps.{is_inside}
use Rattle.net_reader.proofs.line_end.quiet_front.Given as goal

abbrev pub invariant-front : goal.invariant-front
invariant-front l = record {
  within : l.count ≤ length l.piece;
  inside : (k : ℕ) → k < l.count → is_inside (get_or l.piece k 0) ≡ true;
}

abbrev pub decreases-front : goal.decreases-front
decreases-front l = length l.piece - l.count
