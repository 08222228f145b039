use Rattle.std.specs.Prelude.{◌≡◌}
use Rattle.visit_log.specs.Cells.{GoWith}
use Rattle.actor_tests.proofs.cell_tests.play.Given as goal

abbrev pub invariant-steps : goal.invariant-steps
invariant-steps g l = GoWith l.plan l.cells × (l.cells.subs ≡ l.subs)
