use Rattle.std.proofs.Common.{◌≡◌, ◌++◌, [], length}
use Rattle.serde_json.specs.Written.{compact_text}
use Rattle.json_form.specs.Left.{list_left}
use Rattle.json_form.specs.Values.{whole, wholes}
use Rattle.json_form.proofs.lists.push_numbers.Given as goal

abbrev pub invariant-numbers : goal.invariant-numbers
invariant-numbers l = record {
  text : l.text.items ++ list_left l.begun whole l.left ≡ l.fn.text.items ++ compact_text (wholes l.fn.numbers);
  clear : l.line ≡ [];
}

abbrev pub decreases-numbers : goal.decreases-numbers
decreases-numbers l = length l.left
