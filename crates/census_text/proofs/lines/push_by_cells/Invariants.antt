use Rattle.std.proofs.Common.{◌≡◌, ◌≤◌, ◌*◌, ◌^◌, ◌++◌, string_bytes}
use Rattle.census_text.specs.CensusText.{count_below, node_lines}
use Rattle.census_text.specs.Presence.{presence_at}
use Rattle.census_text.proofs.lines.push_by_cells.Given as goal

abbrev pub invariant-loop-node : goal.invariant-loop-node
invariant-loop-node l = record {
  total : l.total ≡ count_below (presence_at l.plan l.cells) l.node;
  few : l.total ≤ l.node * 2 ^ 32;
  lines : string_bytes l.text ≡ string_bytes l.fn.text ++ node_lines (presence_at l.plan l.cells) l.node;
}
