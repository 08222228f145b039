use Rattle.std.proofs.Common.{◌<◌, ℕ, length, map}
use Rattle.std.specs.Prelude.{slice_index_or}
use Rattle.report_check.specs.Blocks.{no_block}
use Rattle.report_check.specs.Parts.{is_of}
use Rattle.report_check.specs.ReadLines.{done_of}
use Rattle.report_check.proofs.Blocking.{IsSoFar}
use Rattle.report_check.proofs.blocks.blocks_of.Given as goal

abbrev pub invariant-lines : goal.invariant-lines
invariant-lines l =
    (actor : ℕ) → actor < length l.blocks.items
    → IsSoFar (is_of actor) (map done_of l.calls) l.place (slice_index_or l.blocks.items actor no_block)
