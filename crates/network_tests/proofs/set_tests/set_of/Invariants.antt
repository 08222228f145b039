use Rattle.std.specs.Prelude.{◌≡◌}
use Rattle.network_tests.proofs.set_tests.set_of.Given as goal

abbrev pub invariant-numbers : goal.invariant-numbers
invariant-numbers l = l.set.room ≡ l.room
