use Rattle.std.proofs.Common.{◌≡◌, ◌+◌, ◌≤◌, length}
use Rattle.std.specs.Prelude.{slice_index, vec_capacity}
use Rattle.visit_log.proofs.Adding.{IsAdding, row_of}
use Rattle.visit_log.proofs.routes.Routes.push_part.Given as goal

abbrev pub invariant-loop-index : goal.invariant-loop-index
invariant-loop-index l = record {
  adding : IsAdding l.plan l.fn.self
      (row_of l.self-inside.levels l.self-inside.starts l.self-inside.places l.self-inside.level_of l.self-inside.ways)
      l.node l.level l.index;
  sum : l.sum ≡ slice_index l.self-inside.ways.items (length l.self-inside.places.items);
  room : length l.fn.self.places + length l.readers ≤ vec_capacity l.self-inside.places;
  ways_room : length l.fn.self.ways + length l.readers ≤ vec_capacity l.self-inside.ways;
}
