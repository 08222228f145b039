use Rattle.directory.proofs.HistoryLaws.{cell-after}
use Rattle.directory.proofs.histories.cell_after.Goals as goal

pub returns : goal.returns
returns c = cell-after
