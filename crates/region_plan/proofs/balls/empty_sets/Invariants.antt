use Rattle.std.proofs.Common.{◌≡◌, length}
use Rattle.std.specs.Prelude.{All}
use Rattle.node_set.specs.Nodes.{Nodes}
use Rattle.region_plan.proofs.balls.empty_sets.Given as goal

abbrev pub invariant-loop-place : goal.invariant-loop-place
invariant-loop-place l = record {
  count : length l.sets.items ≡ l._place;
  rooms : All (λ (s : Nodes). s.room ≡ l.room) l.sets.items;
}
