use Rattle.std.proofs.Common.{ap, sym, subst, arith}
use Rattle.region_plan.specs.ReaderLaws.{readers-few}
use Rattle.visit_log.specs.Routes.{ComesTo}
use Rattle.visit_log.specs.declared.routes.Height.{Height}
use Rattle.walk.specs.declared.progress.Climb.{Climb}
use Rattle.walk.specs.Climbs.{IsClimbOver, climb_past}
use Rattle.machine.specs.Climbs.{rung_of}
use Rattle.machine.proofs.Passing.{climb-is, passes, past-over, climb-at}
use Rattle.machine.proofs.caller.climb_past.Goals as goal

pub returns-clause-exact : goal.returns-clause-exact
returns-clause-exact c = grind (arith, climb-at, climb-is)

pub returns-clause-over : goal.returns-clause-over
returns-clause-over c =
    subst (IsClimbOver c.args.plan.now) (sym (returns-clause-exact c))
    (past-over c.climbs_go_on.ensures c.args.plan.now c.args.climb c.plan_is_sound.ensures.sound
    c.plan_is_sound.ensures.matched c.plan_is_sound.ensures.reached c.requires.over c.args.count c.requires.rungs)

pub returns-clause-each : goal.returns-clause-each
returns-clause-each c = grind (arith, passes)

pub overflow_add-result : goal.overflow_add-result
overflow_add-result c =
    let on : ComesTo c.args.plan.now c.args.routes.now c.args.climb.from (rung_of c.args.climb) c.args.count =
    record { at = climb-at c.requires.routes c.requires.over; on = c.requires.rungs c.args.count (omega arith) } in
    let there : Climb = climb_past c.args.plan.now c.args.climb c.args.count in
    let over : IsClimbOver c.args.plan.now there = grind (arith, past-over) in
    omega (
      arith,
      ap (λ (r : Height). r.weight) (c.past-level.ensures c.args.plan.now on),
      ap (λ (k : Climb). k.weight) (climb-is c.args.plan.now c.args.climb c.args.count),
      readers-few,
    )
