use Rattle.own_reports.proofs.Formed.{outcomes-formed}
use Rattle.own_reports.proofs.laws.outcomes_have_form.Goals as goal

pub returns : goal.returns
returns c = outcomes-formed (record {
  ascend = c.tickets_tell.ensures.ascend;
  visits = c.tickets_tell.ensures.visits;
  in_order = c.scripts_in_order.ensures.script;
  alone = c.scripts_in_order.ensures.alone;
  legal = c.every_order_is_legal.ensures;
  shown = c.done_is_rest.ensures.shown;
  commits = c.told_by_writes.ensures.commits;
  off = c.told_by_writes.ensures.off;
  small = c.writes_are_small.ensures;
  unpack = c.mark_words.ensures.unpacked;
})
    (record {
      means = c.plan_means.ensures;
      bounds = c.plan_is_bounding.ensures;
      track = c.plans_track.ensures;
      scripts = c.scripts_are_valid.ensures;
      played = c.each_visit_is_next.ensures.order;
      done = c.all_scripts_done.ensures.done;
      made = c.lines_are_made.ensures.lines;
      right = c.outcomes_are_right.ensures.lines;
      near = c.plan_outcomes_are_near.ensures;
    })
    (record {
      fall = c.looks_fall.ensures;
      marks = c.marks_tell.ensures.marks;
      entries = c.entries_tell.ensures.entries;
      sparse = c.plan_is_sparse.ensures;
      visits = c.visits_are_few.ensures;
    })
