use Rattle.own_reports.proofs.Sound.{own-sound}
use Rattle.own_reports.proofs.laws.own_reports_are_sound.Goals as goal

pub returns : goal.returns
returns c = own-sound c.reports_are_read.ensures.whole c.outcomes_have_form.ensures c.tickets_are_told.ensures
    c.places_are_told.ensures c.plan_means.ensures c.plan_is_bounding.ensures c.plan_is_sparse.ensures
    c.plans_track.ensures
