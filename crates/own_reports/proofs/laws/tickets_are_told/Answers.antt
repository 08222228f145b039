use Rattle.own_reports.proofs.Tickets.{tickets-told}
use Rattle.own_reports.proofs.laws.tickets_are_told.Goals as goal

pub returns : goal.returns
returns c = tickets-told c.tickets_tell.ensures.ascend c.scripts_in_order.ensures.script c.lines_grow.ensures.count
    c.each_visit_is_next.ensures.order c.all_scripts_done.ensures.done
