use Rattle.std.proofs.Common.{subst}
use Rattle.region_plan.specs.Kept.{IsKept}
use Rattle.region_plan.specs.Matched.{IsMatched, IsWithinReach}
use Rattle.region_plan.proofs.plan.plan_is_sound.Goals as goal

pub returns : goal.returns
returns c = record {
  sound = subst IsKept c.plan.view_is c.plan.invariant.kept;
  matched = subst IsMatched c.plan.view_is c.plan.invariant.matched;
  reached = subst IsWithinReach c.plan.view_is c.plan.invariant.reached;
}
