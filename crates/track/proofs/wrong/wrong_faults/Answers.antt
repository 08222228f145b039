use Rattle.std.proofs.Common.{arith}
use Rattle.track.proofs.wrong.wrong_faults.Goals as goal

pub returns : goal.returns
returns c = record {
  read_failed = λ r. omega (arith, r.0.1);
  too_long = λ r. omega (arith, r.0.1);
  memory_write = λ r. omega (arith, r.0.1);
  memory_read = λ r. omega (arith, r.1.1);
  write_failed = λ r. omega (arith, r.2.1);
}
