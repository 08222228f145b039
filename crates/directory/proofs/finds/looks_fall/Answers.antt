use Rattle.directory.proofs.FindLaws.{looks-fall}
use Rattle.directory.proofs.finds.looks_fall.Goals as goal

pub returns : goal.returns
returns c = looks-fall
