use Rattle.own_stretch.proofs.PlanLaws.{keep-own}
use Rattle.own_stretch.proofs.laws.plan_finds_keep_own_stretch.Goals as goal

pub returns : goal.returns
returns c = keep-own c.own_stretches_are_least.ensures c.finds_end_by_level.ensures.own
    c.finds_end_by_level.ensures.any c.quiet_finds_meet_no_commit.ensures c.plans_track.ensures
