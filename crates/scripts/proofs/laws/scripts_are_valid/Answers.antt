use Rattle.scripts.proofs.Validity.{scripts-valid}
use Rattle.scripts.proofs.laws.scripts_are_valid.Goals as goal

pub returns : goal.returns
returns c = scripts-valid
