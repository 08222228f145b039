use Rattle.std.proofs.Common.{◌≡◌, ℕ, ◌≤◌, ◌+◌, ◌*◌, ◌++◌, List, Some, length, take}
use Rattle.outside.specs.Texts.{fields}
use Rattle.serde_json.specs.View.{items_view}
use Rattle.json_form.specs.Taking.{each_in, number_in}
use Rattle.json_form.proofs.rows.write_row.Given as goal

abbrev pub invariant-loop-item : goal.invariant-loop-item
invariant-loop-item l =
    (ns : List ℕ) × (each_in number_in (items_view (take l.item-index l.items)) ≡ Some ns)
    × (l.line ≡ l.fn.word ++ fields ns) × (length l.line ≤ 16 + 41 * l.item-index)
