use Rattle.walk.specs.Walks.{IsWalkOver}
use Rattle.actor_tests.proofs.walk_tests.play.Given as goal

abbrev pub invariant-steps : goal.invariant-steps
invariant-steps g l = IsWalkOver l.plan l.walk
