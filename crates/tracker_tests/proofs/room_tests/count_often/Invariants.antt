use Rattle.std.proofs.Common.{◌-◌}
use Rattle.station.specs.Passes.{IsFree}
use Rattle.tracker_tests.proofs.room_tests.count_often.Given as goal

-- the pass has room for the censuses that are left
abbrev pub invariant-loop-step : goal.invariant-loop-step
invariant-loop-step l = IsFree l.tracker (l.times - l._step) l.pass
