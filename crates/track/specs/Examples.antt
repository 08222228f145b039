-- The line of four as an input, for examples: its k is 2, and one subscriber starts at node 3.
-- Key law: `told_results` (computed).
use Rattle.std.specs.Prelude.{List, [], ◌∷◌}
use Rattle.net_reader.specs.declared.said.Call.{Call}
use Rattle.net_reader.specs.Input.{Contents}
use Rattle.plan_laws.specs.Examples.{line_edges}

-- its subscriber makes these calls, and there is no caller
abbrev pub line_input : List Call → Contents
line_input calls = record {
  format = 1;
  nodes = 4;
  k = 2;
  edges = line_edges;
  homes = 3 ∷ [];
  callers = 0;
  scripts = calls ∷ [];
  order = [];
}
