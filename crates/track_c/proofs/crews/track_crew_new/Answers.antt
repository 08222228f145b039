use Rattle.std.proofs.Common.{ap, subst, sym, ◌∙◌}
use Rattle.track_c.specs.Crews.{MakesCrew}
use Rattle.track_c.specs.Handles.{held}
use Rattle.track_c.specs.Held.{Held, plan_in, seen, seen_object}
use Rattle.track_c.proofs.Asking.{crew-told, no-plan-crew}
use Rattle.track_c.proofs.crews.track_crew_new.Goals as goal

pub returns-in_default-clause-made : goal.returns-in_default-clause-made
returns-in_default-clause-made c empty =
    no-plan-crew c.args.starts.now c.args.callers c.code-in_default.result (held c.args.plan.now)
    (held c.args.crew.now) (ap seen c.in_default.ensures.held) empty c.code-in_default.ensures

pub returns-clause-made : goal.returns-clause-made
returns-clause-made c empty =
    subst (λ (h : Held). MakesCrew (plan_in h) c.args.starts.now c.args.callers c.fill.result
    (held c.fill.new.self))
    (ap seen_object c.deref.ensures ∙ sym (ap seen c.in-Some.ensures.held))
    (crew-told (plan_in (seen_object c.deref.result.now)) c.args.starts.now c.args.callers
    c.fill.result c.new_in-made.result (held c.args.crew.now) (held c.fill.new.self) empty
    c.new_in-made.ensures c.fill.ensures.refused c.fill.ensures.filled)
