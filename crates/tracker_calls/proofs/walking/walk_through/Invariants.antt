use Rattle.walk.specs.Walks.{call_of}
use Rattle.tracker_calls.proofs.Walked.{IsWalked}
use Rattle.tracker_calls.proofs.walking.walk_through.Given as goal

abbrev pub invariant-looks : goal.invariant-looks
invariant-looks g l = record { walked : IsWalked l.fn.tracker.setup l.fn.pass (call_of l.fn.walk) l.pass l.walk }

abbrev pub decreases-looks : goal.decreases-looks
decreases-looks g l = l.pass.spare
