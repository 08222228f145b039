-- Over plans that bound their finds, finds keep to the plans' own stretches.
use Rattle.region_plan.specs.Measures.{degree_of}
use Rattle.region_plan.specs.Settings.{setting_of}
use Rattle.stretch_laws.specs.Plans.{PlansTrack}
use Rattle.busy_finds.specs.Levels.{FindsKeepAnyStretch, FindsKeepOwnStretch}
use Rattle.busy_finds.specs.Within.{QuietFindsMeetNoCommit}
use Rattle.own_stretch.specs.OwnStretch.{any_stretch_of, OwnStretchesAreLeast, own_stretch_of}
use Rattle.own_stretch.specs.Plans.{FindsKeepOwn, PlanFindsKeepOwnStretch}

pub keep-own : OwnStretchesAreLeast → FindsKeepOwnStretch → FindsKeepAnyStretch → QuietFindsMeetNoCommit → PlansTrack
    → PlanFindsKeepOwnStretch
keep-own least own any no_commit tracks plan starts few bounds = record {
  between = between;
  quiet = λ history actor call found tickets inside legal find quiet. between history actor call found tickets inside legal
      find (no_commit (setting_of plan starts) history actor call found tickets find quiet);
  every = λ history actor call found tickets inside legal find.
      any (setting_of plan starts) plan.reach (degree_of plan) (any_stretch_of (setting_of plan starts)) history actor
      call found tickets few (tracks plan starts bounds)
      (least (setting_of plan starts) plan.reach (degree_of plan) (tracks plan starts bounds)).1.holds inside legal find;
}
  where
    between : FindsKeepOwn plan starts (own_stretch_of (setting_of plan starts))
    between history actor call found tickets inside legal find same =
        own (setting_of plan starts) plan.reach (degree_of plan) (own_stretch_of (setting_of plan starts)) history actor
        call found tickets few (tracks plan starts bounds)
        (least (setting_of plan starts) plan.reach (degree_of plan) (tracks plan starts bounds)).0.holds inside legal find
        same
