use Rattle.own_reports.proofs.SoundTold.{sound-texts}
use Rattle.own_reports.proofs.laws.own_reports_are_sound_texts.Goals as goal

pub returns : goal.returns
returns c = sound-texts c.plan_means.ensures c.plan_is_sparse.ensures c.scripts_are_valid.ensures
    c.each_visit_is_next.ensures.order c.all_scripts_done.ensures.done c.scripts_in_order.ensures.script
    c.lines_grow.ensures.count (record {
      own = c.next_is_own.ensures;
      grow = c.own_after.ensures.visits;
      kept = c.lines_grow.ensures.kept;
    })
    c.places_are_told.ensures
