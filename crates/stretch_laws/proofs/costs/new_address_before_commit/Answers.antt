use Rattle.stretch_laws.proofs.CostLaws.{new-before}
use Rattle.stretch_laws.proofs.costs.new_address_before_commit.Goals as goal

pub returns : goal.returns
returns c = new-before (assumption)
