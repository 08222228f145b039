use Rattle.directory.proofs.FindLaws.{ended-stays}
use Rattle.directory.proofs.finds.ended_stays.Goals as goal

pub returns : goal.returns
returns c = ended-stays
