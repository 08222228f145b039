use Rattle.std.proofs.Common.{rules}
use Rattle.distances.proofs.Lowered.{lowered_all, lowered_more}
use Rattle.distances.proofs.near_nodes.fold_rows.Goals as goal

pub loop-a-preserved : goal.loop-a-preserved
loop-a-preserved c = search (rules, lowered_more)

pub returns : goal.returns
returns c = search (rules, lowered_all)
