use Rattle.std.proofs.Common.{◌≡◌, ◌≤◌, []}
use Rattle.region_plan.specs.Settings.{setting_of}
use Rattle.walk.specs.Walks.{readers_above}
use Rattle.walk.proofs.climb.climb_from.Given as goal

abbrev pub invariant-loop-level : goal.invariant-loop-level
invariant-loop-level l = record {
  high : l.fn.level ≤ l.level;
  same : readers_above (setting_of l.plan []) l.from l.level ≡ readers_above (setting_of l.plan []) l.from l.fn.level;
}
