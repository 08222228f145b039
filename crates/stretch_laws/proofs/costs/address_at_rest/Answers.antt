use Rattle.stretch_laws.proofs.CostLaws.{at-rest}
use Rattle.stretch_laws.proofs.costs.address_at_rest.Goals as goal

pub returns : goal.returns
returns c = at-rest (assumption) c.rest_is_settled.ensures.settled
