use Rattle.station.specs.Passes.{IsFree}
use Rattle.four_threads.proofs.finder.find_until_answered.Given as goal

abbrev pub invariant-tries : goal.invariant-tries
invariant-tries g l = record { free : IsFree l.fn.tracker 0 l.pass }
