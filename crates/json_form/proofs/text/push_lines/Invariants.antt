use Rattle.std.proofs.Common.{length}
use Rattle.json_form.proofs.Orders.{HasWritten}
use Rattle.json_form.proofs.text.push_lines.Given as goal

abbrev pub invariant-lines : goal.invariant-lines
invariant-lines l = HasWritten l.items l.left l.fn.text.items l.text.items l.line

abbrev pub decreases-lines : goal.decreases-lines
decreases-lines l = length l.left
