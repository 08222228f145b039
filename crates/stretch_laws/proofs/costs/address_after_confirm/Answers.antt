use Rattle.stretch_laws.proofs.CostLaws.{after-confirm}
use Rattle.stretch_laws.proofs.costs.address_after_confirm.Goals as goal

pub returns : goal.returns
returns c = after-confirm (assumption)
