use Rattle.std.proofs.Common.{◌≡◌, ◌++◌, length}
use Rattle.std.specs.List.{concat}
use Rattle.report_text.proofs.report_lines.push_lines.Given as goal

abbrev pub invariant-lines : goal.invariant-lines
invariant-lines l = l.text.items ++ concat l.lines.left ≡ l.fn.text.items ++ concat l.fn.lines.left

abbrev pub decreases-lines : goal.decreases-lines
decreases-lines l = length l.lines.left
