use Rattle.directory.proofs.LevelLaws.{move-short}
use Rattle.directory.proofs.courses.moves_are_short.Goals as goal

pub returns : goal.returns
returns c = move-short
