use Rattle.std.proofs.Common.{rules}
use Rattle.distances.proofs.distances.Distances.diameter.Goals as goal

pub returns : goal.returns
returns c = search rules
