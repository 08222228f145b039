use Rattle.std.proofs.Common.{rules}
use Rattle.report_check.specs.ReadLines.{done_of}
use Rattle.report_check.proofs.LastTickets.{none-line}
use Rattle.report_check.proofs.judge.none_left.Goals as goal

pub returns-in-Some : goal.returns-in-Some
returns-in-Some c =
    none-line c.args.order.now c.args.behind.now (done_of c.args.line.now) c.requires (search rules) (search rules)
    c.actor_of.ensures c.end_of.ensures c.is_at_most_behind.ensures
