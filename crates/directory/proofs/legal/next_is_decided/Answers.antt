use Rattle.directory.proofs.StepLaws.{next-decided}
use Rattle.directory.proofs.legal.next_is_decided.Goals as goal

pub returns : goal.returns
returns c = next-decided
