use Rattle.std.proofs.Common.{◌≡◌}
use Rattle.walk.specs.Walks.{call_of}
use Rattle.tracker_calls.proofs.Walked.{IsWalked}
use Rattle.tracker_calls.proofs.walking.walk_on.Given as goal

abbrev pub invariant-looks : goal.invariant-looks
invariant-looks l = record {
  walked : IsWalked l.fn.tracker.setup l.fn.pass (call_of l.fn.walk) l.pass l.walk;
  lost : l.pass.view.lost ≡ l.fn.pass.view.lost;
}

abbrev pub decreases-looks : goal.decreases-looks
decreases-looks l = l.pass.spare
