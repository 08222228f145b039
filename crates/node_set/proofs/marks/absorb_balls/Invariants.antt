use Rattle.std.proofs.Common.{◌≡◌, ℕ, ◌-◌, ◌||◌}
use Rattle.node_set.specs.Ascending.{has, sift, IsAscending}
use Rattle.node_set.specs.Balls.{union_of, sets}
use Rattle.node_set.proofs.marks.absorb_balls.Given as goal

abbrev pub invariant-ball : goal.invariant-ball
invariant-ball l = record {
  room_kept : l.nodes.room ≡ l.fn.nodes.room;
  order : IsAscending l.fn.nodes.members → IsAscending l.nodes.members;
  so_far : (x : ℕ) → has x l.nodes.members
      ≡ (has x (union_of (sets l.balls) (sift (λ v. has v l.centres.members) 0 l.from)) || has x l.fn.nodes.members);
}

abbrev pub decreases-ball : goal.decreases-ball
decreases-ball l = l.centres.room - l.from
