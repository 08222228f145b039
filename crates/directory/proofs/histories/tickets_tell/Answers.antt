use Rattle.directory.proofs.HistoryLaws.{tickets-tell, tickets-ascend}
use Rattle.directory.proofs.histories.tickets_tell.Goals as goal

pub returns : goal.returns
returns c = record { visits = tickets-tell; ascend = tickets-ascend }
