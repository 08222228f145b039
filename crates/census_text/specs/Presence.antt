-- Who is at a node by the presence cells: what the code that tells a census of cells looks at.
-- Key law: `census`, by its clause `history` (by the cells that a history leaves, the text of a
-- census is that of the directory's own census).
use Rattle.std.specs.Prelude.{ℕ, Bool, List}
use Rattle.node_set.specs.Ascending.{sift}
use Rattle.entry_word.specs.Marks.{mark_in, says_here}
use Rattle.entry_word.specs.declared.visit.Key.TheVariants.{Presence}
use Rattle.region_plan.specs.Plan.{PlanData}
use Rattle.visit_log.specs.Cells.{CellData, word_at}

-- whether the presence cell of a subscriber at a node says that it is there
abbrev pub is_there : PlanData → CellData → ℕ → ℕ → Bool
is_there plan cells node sub = says_here (mark_in (word_at plan cells (Presence node sub)))

-- the subscribers that are at a node, by their cells
abbrev pub presence_at : PlanData → CellData → ℕ → List ℕ
presence_at plan cells node = sift (is_there plan cells node) 0 cells.subs
