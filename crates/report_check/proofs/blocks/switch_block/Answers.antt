use Rattle.std.proofs.Common.{map, ◌+◌, ◌∙◌, sym, subst}
use Rattle.report_check.specs.declared.calls.Line.TheVariants.{Move}
use Rattle.report_check.specs.Blocks.{is_switched}
use Rattle.report_check.specs.ReadLines.{done_of}
use Rattle.report_check.proofs.Blocking.{IsSoFar, block-line, line-other}
use Rattle.report_check.proofs.blocks.switch_block.Goals as goal
use Rattle.report_check.proofs.blocks.switch_block.Goals.{then-is_switched, else-is_switched}

pub lines-preserved : goal.lines-preserved
lines-preserved c =
    elim c.if-is_switched.branch [
      | then-is_switched w ↦ subst (IsSoFar is_switched (map done_of c.args.calls.now) (c.lines.place + 1))
          (sym w.block-is)
          (subst (IsSoFar is_switched (map done_of c.args.calls.now) (c.lines.place + 1))
          (sym w.with_line-block.ensures)
          (block-line c.lines.invariant))
      | else-is_switched w ↦ subst (IsSoFar is_switched (map done_of c.args.calls.now) (c.lines.place + 1))
          (sym w.block-is)
          (line-other c.args.calls.now (Move 0 0 0 0 0 0 0 0) c.lines-test.true c.lines.invariant
          (sym c.is_switched.ensures ∙ w.if-is_switched.false))
    ]
