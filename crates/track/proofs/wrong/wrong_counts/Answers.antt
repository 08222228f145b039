use Rattle.std.proofs.Common.{◌≡◌, ℕ, arith}
use Rattle.outside.specs.Calls.{one_more}
use Rattle.track.proofs.wrong.wrong_counts.Goals as goal

twice : ◌≡◌ {A = ℕ} 2 (one_more 0) → ⊥
twice e = omega (arith, e)

pub returns : goal.returns
returns c = record {
  read = λ r. twice r.1.1;
  write = λ r. twice r.0.1;
  alone = λ r. twice r.0.1;
}
