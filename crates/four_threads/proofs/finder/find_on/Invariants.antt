use Rattle.station.specs.Passes.{IsFree}
use Rattle.four_threads.proofs.finder.find_on.Given as goal

abbrev pub invariant-finds : goal.invariant-finds
invariant-finds g l = record { free : IsFree l.fn.tracker 0 l.pass }
