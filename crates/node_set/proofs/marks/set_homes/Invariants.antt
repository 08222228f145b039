use Rattle.std.proofs.Common.{◌≡◌, ℕ, ◌<◌, ◌≤◌, ◌-◌, cond, get_or}
use Rattle.node_set.specs.Ascending.{has}
use Rattle.node_set.proofs.marks.set_homes.Given as goal

abbrev pub invariant-ball : goal.invariant-ball
invariant-ball l = record {
  done : (x : ℕ) → x < l.from → get_or l.home x 0 ≡ cond (has x l.taken.members) l.number (get_or l.fn.home x 0);
  left : (x : ℕ) → l.from ≤ x → get_or l.home x 0 ≡ get_or l.fn.home x 0;
}

abbrev pub decreases-ball : goal.decreases-ball
decreases-ball l = l.taken.room - l.from
