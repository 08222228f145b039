use Rattle.std.proofs.Common.{ℕ, ◌%◌, ap}
use Rattle.rand_pcg.specs.Lcg.{Lcg}
use Rattle.make_load.specs.Draws.{draw}
use Rattle.make_load.proofs.draws.draw.Goals as goal

pub returns-clause-value : goal.returns-clause-value
unfolding draw
returns-clause-value c = ap (λ (p : ℕ × Lcg). p.0 % c.args.m) c.next_word.ensures

pub returns-clause-left : goal.returns-clause-left
unfolding draw
returns-clause-left c = ap (λ (p : ℕ × Lcg). p.1) c.next_word.ensures
