use Rattle.directory.proofs.HistoryLaws.{cell-of_puts}
use Rattle.directory.proofs.histories.cell_of_puts.Goals as goal

pub returns : goal.returns
returns c = cell-of_puts
