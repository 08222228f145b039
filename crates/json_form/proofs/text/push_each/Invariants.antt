use Rattle.std.proofs.Common.{◌≡◌, ℕ, ◌++◌, [], List, Some, take}
use Rattle.std.specs.List.{concat}
use Rattle.serde_json.specs.View.{items_view}
use Rattle.json_form.specs.Left.{line_in}
use Rattle.json_form.specs.Taking.{each_in}
use Rattle.json_form.proofs.text.push_each.Given as goal

abbrev pub invariant-loop-item : goal.invariant-loop-item
invariant-loop-item l =
    (pieces : List (List ℕ)) × (each_in (line_in l.kind) (items_view (take l.item-index l.items)) ≡ Some pieces)
    × (l.text.items ≡ l.fn.text.items ++ concat pieces) × (l.line ≡ [])
