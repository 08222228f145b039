use Rattle.std.proofs.Common.{◌<◌, ℕ, length, get_or}
use Rattle.report_check.proofs.LastTickets.{IsBehindSoFar}
use Rattle.report_check.proofs.blocks.behind_tickets.Given as goal

abbrev pub invariant-tickets : goal.invariant-tickets
invariant-tickets l =
    (actor : ℕ) → actor < length l.behind.items
    → IsBehindSoFar l.order l.ticket actor (get_or l.behind.items actor 0)
