use Rattle.std.proofs.Common.{rules}
use Rattle.stretch_laws.proofs.bounds.bound.Goals as goal

pub returns : goal.returns
returns c = search rules
