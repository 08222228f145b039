use Rattle.node_set.specs.SetLaws.{has-passing}
use Rattle.std.proofs.Common.{arith}
use Rattle.directory.proofs.standing.census_members.Goals as goal

pub returns : goal.returns
returns c = grind (arith, has-passing)
