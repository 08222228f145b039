use Rattle.std.proofs.Common.{◌∙◌, suc, sym, arith, map}
use Rattle.report_check.specs.ReadLines.{done_of}
use Rattle.report_check.proofs.Steps.{meets-here, meets-last, meets-none, meets-step}
use Rattle.report_check.proofs.told.meets_later.Goals as goal

pub returns-then-first-order : goal.returns-then-first-order
returns-then-first-order c =
    sym (meets-none (map done_of c.args.lines.now.calls.now) c.args.order.now c.args.sub c.args.last (suc c.args.first)
    (omega (arith, c.if-first-order.true)))

pub returns-then-ticket-last : goal.returns-then-ticket-last
returns-then-ticket-last c =
    sym (meets-last (map done_of c.args.lines.now.calls.now) c.args.order.now c.args.sub c.args.last c.tickets.ticket
    c.tickets-test.true c.if-ticket-last.true) ∙ c.tickets.invariant

pub returns-then-is_of_move : goal.returns-then-is_of_move
returns-then-is_of_move c =
    sym (meets-here (map done_of c.args.lines.now.calls.now) c.args.order.now c.args.sub c.args.last c.tickets.ticket
    c.tickets-test.true c.if-ticket-last.false (sym c.is_of_move.ensures ∙ c.if-is_of_move.true)) ∙ c.tickets.invariant

pub tickets-preserved : goal.tickets-preserved
tickets-preserved c =
    sym (meets-step (map done_of c.args.lines.now.calls.now) c.args.order.now c.args.sub c.args.last c.tickets.ticket
    c.tickets-test.true c.if-ticket-last.false (sym c.is_of_move.ensures ∙ c.if-is_of_move.false)) ∙ c.tickets.invariant

pub returns : goal.returns
returns c =
    sym (meets-none (map done_of c.args.lines.now.calls.now) c.args.order.now c.args.sub c.args.last c.tickets.ticket
    c.tickets-test.false) ∙ c.tickets.invariant
