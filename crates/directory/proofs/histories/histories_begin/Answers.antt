use Rattle.directory.proofs.histories.histories_begin.Goals as goal
use Rattle.directory.specs.HistoryLaws.{front-itself, front-append, front-through}

pub returns : goal.returns
returns c = record { itself = front-itself; longer = front-append; through = front-through }
