use Rattle.std.proofs.Common.{◌≡◌, ◌≤◌, ◌+◌, ◌*◌, ◌-◌, [], drop, length, take}
use Rattle.net_reader.specs.Whole.{IsTaking}
use Rattle.net_reader.proofs.whole.take_numbers.Given as goal

abbrev pub invariant-numbers : goal.invariant-numbers
invariant-numbers l = record {
  same : length l.numbers ≡ length l.fn.numbers;
  most : l.most ≤ length l.numbers;
  within : l.count ≤ l.most;
  room : l.at + 4 * (l.most - l.count) ≤ length l.piece;
  taking : IsTaking l.limit [] (take l.count l.numbers) l.piece (drop l.at l.piece);
}

abbrev pub decreases-numbers : goal.decreases-numbers
decreases-numbers l = l.most - l.count
