use Rattle.distances.proofs.TakingBack.{both_ways}
use Rattle.distances.proofs.elimination.eliminate.Goals as goal

pub returns : goal.returns
returns c =
    both_ways c.take_back_all.new.table c.take_back_all.result c.in_ok-left_out.ensures.left_out c.take_back_all.ensures
