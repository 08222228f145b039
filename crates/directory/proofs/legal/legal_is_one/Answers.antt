use Rattle.directory.proofs.OneProof.{puts-prop}
use Rattle.directory.proofs.legal.legal_is_one.Goals as goal

pub returns : goal.returns
returns c = puts-prop
