use Rattle.walk.specs.Walks.{IsWalkOver}
use Rattle.actor_tests.proofs.walk_tests.go_to_and_fro.Given as goal

abbrev pub invariant-hops : goal.invariant-hops
invariant-hops l = IsWalkOver l.plan l.walk
