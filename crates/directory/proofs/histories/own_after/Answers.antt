use Rattle.directory.specs.StepLaws.{own-push, puts-push}
use Rattle.directory.proofs.HistoryLaws.{words-push, tickets-push}
use Rattle.directory.proofs.histories.own_after.Goals as goal

pub returns : goal.returns
returns c = record { visits = own-push; puts = puts-push; words = words-push; tickets = tickets-push }
