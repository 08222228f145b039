use Rattle.std.proofs.Common.{◌≡◌, ◌≤◌, ◌+◌, nat_le, get_or, []}
use Rattle.directory.specs.Courses.{highest}
use Rattle.region_plan.specs.Plan.{levels_of, threshold}
use Rattle.handset.specs.Beginning.{renewal_in}
use Rattle.region_plan.specs.Settings.{setting_of}
use Rattle.handset.proofs.levels.renewal.Given as goal

abbrev pub invariant-loop-limit : goal.invariant-loop-limit
invariant-loop-limit l = record {
  within : l.limit ≤ levels_of l.plan;
  same : highest (λ level. nat_le (threshold l.plan level) (get_or l.gathered level 0 + l.weight)) l.limit
      ≡ renewal_in (setting_of l.plan []) l.gathered l.weight;
}

abbrev pub decreases-loop-limit : goal.decreases-loop-limit
decreases-loop-limit l = l.limit
