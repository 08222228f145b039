use Rattle.std.proofs.Common.{◌≡◌, ◌-◌, suc, not, ◌==◌, get_or}
use Rattle.region_plan.specs.Plan.{home}
use Rattle.handset.specs.StepWrites.{first_with}
use Rattle.handset.proofs.levels.first_old.Given as goal

abbrev pub invariant-loop-level : goal.invariant-loop-level
invariant-loop-level l =
    first_with (λ level. not (home l.plan level (get_or l.addresses level 0) == home l.plan level l.last.to))
    l.level (suc l.last.renewed - l.level)
    ≡ first_with (λ level. not (home l.plan level (get_or l.addresses level 0) == home l.plan level l.last.to))
    l.from (suc l.last.renewed - l.from)
