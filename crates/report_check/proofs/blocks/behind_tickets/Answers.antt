use Rattle.std.proofs.Common.{ap, arith, get_or, refl, List, Vec, Global, ℕ}
use Rattle.report_check.proofs.LastTickets.{behind-more, behind-past}
use Rattle.report_check.proofs.blocks.behind_tickets.Goals as goal
use Rattle.report_check.proofs.blocks.behind_tickets.Goals.{then-actor-len, else-actor-len}

pub tickets-preserved : goal.tickets-preserved
tickets-preserved c =
    let behind : List ℕ = c.tickets.behind.items in
    let order = c.args.order.now in
    let ticket = c.tickets.ticket in
    let actor = get_or order ticket 0 in
    elim c.if-actor-len.branch [
      | then-actor-len w ↦
          behind-more behind c.tickets-test.true refl (omega (arith, w.if-actor-len.true, c.len.ensures))
          (ap (λ (v : Vec ℕ Global). v.items) w.behind-is) c.tickets.invariant
      | else-actor-len w ↦
          rw w.behind-is (behind-past behind c.tickets-test.true refl
          (omega (arith, w.if-actor-len.false, c.len.ensures)) c.tickets.invariant)
    ]
