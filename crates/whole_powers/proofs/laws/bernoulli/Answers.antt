use Rattle.whole_powers.proofs.Inequalities.{bernoulli, bernoulli_below}
use Rattle.whole_powers.proofs.laws.bernoulli.Goals as goal

pub returns-clause-above : goal.returns-clause-above
returns-clause-above c = bernoulli

pub returns-clause-below : goal.returns-clause-below
returns-clause-below c = bernoulli_below
