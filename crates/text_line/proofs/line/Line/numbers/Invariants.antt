use Rattle.std.proofs.Common.{◌≡◌, ◌≤◌, ◌+◌, ◌*◌, ◌++◌, length, take}
use Rattle.outside.specs.Texts.{fields}
use Rattle.text_line.proofs.line.Line.numbers.Given as goal

abbrev pub invariant-loop-number : goal.invariant-loop-number
invariant-loop-number l = record {
  text : l.self ≡ l.fn.self ++ fields (take l.number-index l.numbers);
  long : length l.self ≤ length l.fn.self + 41 * l.number-index;
}
