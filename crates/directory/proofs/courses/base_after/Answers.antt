use Rattle.directory.proofs.HistoryLaws.{base-after}
use Rattle.directory.proofs.courses.base_after.Goals as goal

pub returns : goal.returns
returns c = base-after
