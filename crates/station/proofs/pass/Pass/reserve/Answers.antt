use Rattle.std.proofs.Common.{arith}
use Rattle.station.proofs.pass.Pass.reserve.Goals as goal
use Rattle.directory.specs.HistoryLaws.{tickets-count}

pub invariant_of-self-then-self-visits : goal.invariant_of-self-then-self-visits
invariant_of-self-then-self-visits c = grind (arith, tickets-count)
