use Rattle.std.proofs.Common.{◌≡◌, ℕ, arith}
use Rattle.worked_examples.proofs.passes.wrong_censuses.Goals as goal

pub returns-clause-missing : goal.returns-clause-missing
returns-clause-missing c = λ census. let e : ◌≡◌ {A = ℕ} 0 1 = census.bits 0 in omega (arith, e)

pub returns-clause-more : goal.returns-clause-more
returns-clause-more c = λ census. let e : ◌≡◌ {A = ℕ} 1 0 = census.bits 1 in omega (arith, e)

pub returns-clause-higher : goal.returns-clause-higher
returns-clause-higher c = λ census. let e : ◌≡◌ {A = ℕ} 1 0 = census.bits 3 in omega (arith, e)
