use Rattle.own_reports.proofs.Places.{places-told}
use Rattle.own_reports.proofs.laws.places_are_told.Goals as goal

pub returns : goal.returns
returns c = places-told (record {
  ascend = c.tickets_tell.ensures.ascend;
  visits = c.tickets_tell.ensures.visits;
  in_order = c.scripts_in_order.ensures.script;
  alone = c.scripts_in_order.ensures.alone;
  legal = c.every_order_is_legal.ensures;
  shown = c.done_is_rest.ensures.shown;
  commits = c.told_by_writes.ensures.commits;
  off = c.told_by_writes.ensures.off;
  small = c.writes_are_small.ensures;
  unpack = c.mark_words.ensures.unpacked;
})
    c.lines_grow.ensures.count (record {
      means = c.plan_means.ensures;
      bounds = c.plan_is_bounding.ensures;
      track = c.plans_track.ensures;
      scripts = c.scripts_are_valid.ensures;
      played = c.each_visit_is_next.ensures.order;
      done = c.all_scripts_done.ensures.done;
      made = c.lines_are_made.ensures.lines;
      right = c.outcomes_are_right.ensures.lines;
      near = c.plan_outcomes_are_near.ensures;
    })
