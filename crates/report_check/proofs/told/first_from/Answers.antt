use Rattle.std.proofs.Common.{◌∙◌, sym}
use Rattle.report_check.proofs.Steps.{first-found, first-none, first-step}
use Rattle.report_check.proofs.told.first_from.Goals as goal

pub returns-then-order-ticket : goal.returns-then-order-ticket
returns-then-order-ticket c =
    sym (first-found c.args.order.now c.tickets.ticket c.tickets-test.true (c.if-order-ticket.true ∙ c.from.ensures))
    ∙ c.tickets.invariant

pub tickets-preserved : goal.tickets-preserved
tickets-preserved c =
    sym (first-step c.args.order.now c.args.actor c.tickets.ticket c.tickets-test.true
    (λ same. c.if-order-ticket.false (same ∙ sym c.from.ensures))) ∙ c.tickets.invariant

pub returns : goal.returns
returns c =
    sym (first-none c.args.order.now c.args.actor c.tickets.ticket c.tickets-test.false) ∙ c.tickets.invariant
