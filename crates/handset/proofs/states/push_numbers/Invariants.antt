use Rattle.std.proofs.Common.{◌≡◌, ◌++◌, take}
use Rattle.handset.proofs.states.push_numbers.Given as goal

abbrev pub invariant-loop-number : goal.invariant-loop-number
invariant-loop-number l = l.words.items ≡ l.fn.words.items ++ take l.number-index l.numbers
