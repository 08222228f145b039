use Rattle.directory.proofs.RestLaws.{looks-short}
use Rattle.directory.proofs.finds.finds_are_short.Goals as goal

pub returns : goal.returns
returns c = looks-short
