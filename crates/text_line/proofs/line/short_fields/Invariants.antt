use Rattle.std.proofs.Common.{◌≡◌, length}
use Rattle.text_line.specs.Shorts.{AreShort}
use Rattle.text_line.proofs.line.short_fields.Given as goal

abbrev pub invariant-loop-number : goal.invariant-loop-number
invariant-loop-number l = record { are : AreShort l.shorts.items; count : length l.shorts.items ≡ l.number }
