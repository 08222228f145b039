use Rattle.std.proofs.Common.{◌≡◌, ℕ, ◌<◌, false, length}
use Rattle.coarse_cover.specs.Coarsening.{is_enough}
use Rattle.node_set.specs.Balls.{growth, union_of, sets}
use Rattle.std.specs.Prelude.{All}
use Rattle.node_set.specs.Nodes.{Nodes}
use Rattle.node_set.specs.Workspaces.{SpareTaken}
use Rattle.coarse_cover.proofs.growing.grow.Given as goal

abbrev pub invariant-loop-step : goal.invariant-loop-step
invariant-loop-step l = record {
  taken : l.growth.taken.members ≡ growth (sets l.balls) l.waiting.members l.first l._step;
  members : l.members ≡ record {
    room = length l.balls;
    members = union_of (sets l.balls) (growth (sets l.balls) l.waiting.members l.first l._step);
  };
  size : l.size ≡ length (growth (sets l.balls) l.waiting.members l.first l._step);
  none : (i : ℕ) → i < l._step → is_enough (sets l.balls) l.k l.r l.waiting.members l.first i ≡ false;
  taken_room : l.growth.taken.room ≡ length l.balls;
  touched_room : l.growth.touched.room ≡ length l.balls;
  spare_rooms : All (λ (s : Nodes). s.room ≡ length l.balls) l.growth.spare.items;
  spare : SpareTaken 1 l.fn.growth.spare.items l.growth.spare.items;
}
