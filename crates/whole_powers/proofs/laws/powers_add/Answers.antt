use Rattle.whole_powers.proofs.Inequalities.{powers_add}
use Rattle.whole_powers.proofs.laws.powers_add.Goals as goal

pub returns : goal.returns
returns c = powers_add
