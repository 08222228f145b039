use Rattle.std.proofs.Common.{◌≡◌, ap, subst, sym, ◌∙◌}
use Rattle.track_c.specs.Held.{Held, MoverHeld, a_mover, seen_mover, seen_object}
use Rattle.track_c.specs.Saving.{ComesBack}
use Rattle.track_c.proofs.saving.save_in.Goals as goal

-- the mover that is held, or else another
abbrev mover_or : MoverHeld → Held → MoverHeld
mover_or other (a_mover mover) = mover
mover_or other held = other

as_held : (own it : MoverHeld) → a_mover own ≡ a_mover it → ComesBack own → ComesBack it
as_held own it same back = subst ComesBack (ap (mover_or it) same) back

pub returns-in-Mover-clause-back : goal.returns-in-Mover-clause-back
returns-in-Mover-clause-back c = λ it same.
    as_held (seen_mover c.in-Mover.mover) it (sym (ap seen_object c.in-Mover.is) ∙ same) c.save.ensures.back
