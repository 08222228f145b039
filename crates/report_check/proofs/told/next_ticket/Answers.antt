use Rattle.std.proofs.Common.{◌∙◌, ap, sym, arith, suc}
use Rattle.report_check.specs.Parts.{next_ticket}
use Rattle.report_check.proofs.Steps.{first-none}
use Rattle.report_check.proofs.told.next_ticket.Goals as goal

pub returns-then-ticket-order : goal.returns-then-ticket-order
returns-then-ticket-order c =
    sym (ap (next_ticket c.args.order.now c.args.actor) c.in-Some.is
    ∙ first-none c.args.order.now c.args.actor (suc c.in-Some.ticket) (omega (arith, c.if-ticket-order.true)))
