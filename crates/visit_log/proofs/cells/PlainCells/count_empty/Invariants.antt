use Rattle.std.proofs.Common.{◌≡◌, ◌<◌, ℕ}
use Rattle.std.specs.Prelude.{slice_index}
use Rattle.visit_log.specs.Cells.{word_beside}
use Rattle.visit_log.proofs.cells.PlainCells.count_empty.Given as goal

abbrev pub invariant-loop-i : goal.invariant-loop-i
invariant-loop-i l = (j : ℕ) → j < l.i → word_beside l.self l.sub (slice_index l.places j) ≡ 0
