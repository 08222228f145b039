use Rattle.std.proofs.Common.{◌≡◌, ◌^◌, map, take}
use Rattle.std.specs.Prelude.{All}
use Rattle.node_set.specs.Nodes.{Nodes}
use Rattle.distances.specs.Table.{ball_of}
use Rattle.node_set.specs.Balls.{centres, sets}
use Rattle.region_plan.proofs.balls.fill_balls.Given as goal

abbrev pub invariant-loop-v : goal.invariant-loop-v
invariant-loop-v l = record {
  balls : sets (take l.v l.balls) ≡ map (λ u. ball_of l.distances u (2 ^ l.i)) (centres l.v);
  rooms : All (λ (b : Nodes). b.room ≡ l.distances.nodes) l.balls;
}
