use Rattle.whole_powers.proofs.Inequalities.{one_phase}
use Rattle.whole_powers.proofs.laws.one_phase.Goals as goal

pub returns : goal.returns
returns c = one_phase
