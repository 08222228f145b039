use Rattle.std.proofs.Common.{◌≡◌}
use Rattle.node_set.specs.Ascending.{sift}
use Rattle.census_text.specs.Presence.{is_there}
use Rattle.census_text.proofs.lines.list_by_cells.Given as goal

abbrev pub invariant-loop-sub : goal.invariant-loop-sub
invariant-loop-sub l = l.who.items ≡ sift (is_there l.plan l.cells l.node) 0 l.sub
