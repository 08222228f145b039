use Rattle.whole_powers.proofs.Inequalities.{phases_bound}
use Rattle.whole_powers.proofs.laws.phases_bound.Goals as goal

pub returns : goal.returns
returns c = phases_bound
