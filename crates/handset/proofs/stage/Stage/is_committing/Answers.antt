use Rattle.std.proofs.Common.{rules}
use Rattle.handset.proofs.stage.Stage.is_committing.Goals as goal

pub returns-in_default : goal.returns-in_default
returns-in_default c = search rules
