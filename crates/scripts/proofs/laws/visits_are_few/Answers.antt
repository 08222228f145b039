use Rattle.scripts.proofs.Counting.{visits-few}
use Rattle.scripts.proofs.laws.visits_are_few.Goals as goal

pub returns : goal.returns
returns c = visits-few c.own_after.ensures.visits c.turns_are_few.ensures.few c.moves_are_short.ensures
    c.each_visit_is_next.ensures.more
