use Rattle.std.proofs.Common.{◌≡◌, ◌+◌, length}
use Rattle.station.specs.Opening.{AreLaid, setup_of}
use Rattle.station.proofs.opening.lay_locks.Given as goal

abbrev pub invariant-loop : goal.invariant-loop
invariant-loop l = AreLaid (setup_of l.plan l.homes 0) l.words.items × (length l.words.items ≡ 1 + l.counter)
