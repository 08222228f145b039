use Rattle.directory.proofs.HistoryLaws.{same_key-means}
use Rattle.directory.proofs.histories.same_key_means.Goals as goal

pub returns : goal.returns
returns c = same_key-means
