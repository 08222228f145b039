use Rattle.std.proofs.Common.{◌≡◌, ◌++◌, flat_map, string_bytes, take}
use Rattle.move_cost.specs.CostText.{line_text}
use Rattle.move_cost.proofs.text.push_lines.Given as goal

abbrev pub invariant-loop-line : goal.invariant-loop-line
invariant-loop-line l =
    string_bytes l.text ≡ string_bytes l.fn.text ++ flat_map line_text (take l.line-index l.lines)
