use Rattle.stretch_laws.proofs.CostLaws.{current-after}
use Rattle.stretch_laws.proofs.costs.current_address_after_confirm.Goals as goal

pub returns : goal.returns
returns c = current-after (assumption)
