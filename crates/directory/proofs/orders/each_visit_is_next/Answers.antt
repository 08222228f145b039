use Rattle.directory.proofs.NextLaws.{played-of_history, played-of_play, played-push}
use Rattle.directory.proofs.orders.each_visit_is_next.Goals as goal

pub returns : goal.returns
returns c = record { order = played-of_history; part = played-of_play; more = played-push }
