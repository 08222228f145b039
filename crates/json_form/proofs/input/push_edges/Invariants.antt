use Rattle.std.proofs.Common.{◌≡◌, ◌++◌, [], length}
use Rattle.serde_json.specs.Written.{compact_text}
use Rattle.json_form.specs.Inputs.{edge_value}
use Rattle.json_form.specs.Left.{list_left}
use Rattle.json_form.specs.Values.{list_by}
use Rattle.json_form.proofs.input.push_edges.Given as goal

abbrev pub invariant-edges : goal.invariant-edges
invariant-edges l = record {
  text : l.text.items ++ list_left l.begun edge_value l.left ≡ l.fn.text.items
      ++ compact_text (list_by edge_value l.fn.edges);
  clear : l.line ≡ [];
}

abbrev pub decreases-edges : goal.decreases-edges
decreases-edges l = length l.left
