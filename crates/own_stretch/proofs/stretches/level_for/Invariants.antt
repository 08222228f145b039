use Rattle.std.proofs.Common.{◌≡◌, ◌-◌}
use Rattle.busy_finds.specs.Levels.{reaching}
use Rattle.own_stretch.proofs.stretches.level_for.Given as goal

abbrev pub invariant-loop-level : goal.invariant-loop-level
invariant-loop-level l = reaching l.distance l.level (l.top - l.level) ≡ reaching l.distance 0 l.top
