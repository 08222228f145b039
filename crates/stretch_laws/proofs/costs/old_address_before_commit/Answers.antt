use Rattle.stretch_laws.proofs.CostLaws.{old-before}
use Rattle.stretch_laws.proofs.costs.old_address_before_commit.Goals as goal

pub returns : goal.returns
returns c = old-before (assumption)
