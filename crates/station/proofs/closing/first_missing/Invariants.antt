use Rattle.station.specs.Closing.{ArePresent}
use Rattle.station.proofs.closing.first_missing.Given as goal

abbrev pub invariant-loop-actor : goal.invariant-loop-actor
invariant-loop-actor l = ArePresent l.actor l.passes
