use Rattle.std.proofs.Common.{ap, arith, refl, subst}
use Rattle.std.specs.Arc.{arc_value}
use Rattle.region_plan.specs.Kept.{IsKept}
use Rattle.track_c.specs.Saving.{unless_no_state}
use Rattle.track_c.proofs.object.Mover.comes_back.Goals as goal

pub returns : goal.returns
returns c = λ starts.
    let kept = subst IsKept (ap (λ network. network.plan) c.deref.ensures) c.plan_is_sound.ensures.sound in
    ap (unless_no_state (record { plan = (arc_value c.args.self.now.network).plan; starts = starts }))
    (c.states_come_back.ensures.back _ _ _ kept
    (record { same = refl; goes = c.args.self.now.goes; sub = omega (arith, c.sub.ensures, c.sub.type_inv) }))
