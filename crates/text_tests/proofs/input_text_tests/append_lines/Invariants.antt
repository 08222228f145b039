use Rattle.std.proofs.Common.{length}
use Rattle.text_tests.proofs.input_text_tests.append_lines.Given as goal

abbrev pub decreases-lines : goal.decreases-lines
decreases-lines l = length l.lines.left
