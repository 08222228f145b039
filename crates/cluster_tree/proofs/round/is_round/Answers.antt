use Rattle.std.proofs.Common.{arith}
use Rattle.std.proofs.lemmas.Bool.{eqb-true}
use Rattle.cluster_tree.proofs.Rounding.{round_by_count}
use Rattle.cluster_tree.proofs.round.is_round.Goals as goal

pub returns : goal.returns
returns c = grind (arith, eqb-true, round_by_count)
