use Rattle.stretch_laws.proofs.CostLaws.{in-passage}
use Rattle.stretch_laws.proofs.costs.address_in_passage.Goals as goal

pub returns : goal.returns
returns c = in-passage (assumption) c.passage_is_open.ensures
