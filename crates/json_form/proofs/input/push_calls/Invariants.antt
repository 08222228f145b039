use Rattle.std.proofs.Common.{◌≡◌, ◌++◌, [], length}
use Rattle.serde_json.specs.Written.{compact_text}
use Rattle.json_form.specs.Inputs.{call_value}
use Rattle.json_form.specs.Left.{list_left}
use Rattle.json_form.specs.Values.{list_by}
use Rattle.json_form.proofs.input.push_calls.Given as goal

abbrev pub invariant-calls : goal.invariant-calls
invariant-calls l = record {
  text : l.text.items ++ list_left l.begun call_value l.left ≡ l.fn.text.items
      ++ compact_text (list_by call_value l.fn.calls);
  clear : l.line ≡ [];
}

abbrev pub decreases-calls : goal.decreases-calls
decreases-calls l = length l.left
