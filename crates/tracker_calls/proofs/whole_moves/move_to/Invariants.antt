use Rattle.tracker_calls.proofs.WholeMove.{IsMoving}
use Rattle.tracker_calls.proofs.whole_moves.move_to.Given as goal

abbrev pub invariant-puts : goal.invariant-puts
invariant-puts g l = record {
  moving : IsMoving l.fn.tracker.setup l.fn.pass l.fn.handset l.fn.to l.moved l.pass l.handset;
}

abbrev pub decreases-puts : goal.decreases-puts
decreases-puts g l = l.pass.spare
