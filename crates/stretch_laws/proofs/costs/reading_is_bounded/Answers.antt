use Rattle.stretch_laws.proofs.CostLaws.{reading-bounded}
use Rattle.stretch_laws.proofs.costs.reading_is_bounded.Goals as goal

pub returns : goal.returns
returns c = reading-bounded
