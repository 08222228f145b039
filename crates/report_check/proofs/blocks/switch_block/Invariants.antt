use Rattle.std.proofs.Common.{map}
use Rattle.report_check.specs.Blocks.{is_switched}
use Rattle.report_check.specs.ReadLines.{done_of}
use Rattle.report_check.proofs.Blocking.{IsSoFar}
use Rattle.report_check.proofs.blocks.switch_block.Given as goal

abbrev pub invariant-lines : goal.invariant-lines
invariant-lines l = IsSoFar is_switched (map done_of l.calls) l.place l.block
