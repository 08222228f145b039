use Rattle.trail_laws.proofs.Resting.{rest-ends, rest-settled}
use Rattle.trail_laws.proofs.ways.rest_is_settled.Goals as goal

pub returns : goal.returns
returns c = record { settled = rest-settled assumption; ends = rest-ends assumption }
