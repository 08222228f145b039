use Rattle.std.proofs.Common.{◌≡◌, ℕ, ◌≤◌, List, [], length, ap, ◌∙◌, append-nil, arith, Option}
use Rattle.std.specs.Prelude.{None, Some}
use Rattle.track.specs.Transfer.{IsReadWithin}
use Rattle.track.proofs.wrong.wrong_lengths.Goals as goal

-- how many bytes are known to be left
count-in : Option (List ℕ) → ℕ
count-in None = 0
count-in (Some bytes) = length bytes

read-whole : {limit : ℕ} {bytes : List ℕ} → IsReadWithin limit (Some bytes) (Some []) → length bytes ≤ limit
unfolding count-in
read-whole {bytes} within =
    let same : length bytes ≡ length within.bytes = ap count-in within.parts ∙ ap length (append-nil within.bytes) in
    omega (arith, same, within.short)

pub returns : goal.returns
returns c = record {
  whole = λ bytes now long r. omega (arith, long, r.0.short);
  refused = λ bytes now long r. omega (arith, long, r.0.short);
  begun = λ bytes now long r. omega (arith, long, r.1.short);
  check_whole = λ bytes now long r. omega (arith, long, r.0.short.0);
  check_part = λ bytes now long r. omega (arith, long, r.0.short.1);
  check_begun = λ bytes now long r. omega (arith, long, r.1.short.1);
  read_failed = λ bytes long r. omega (arith, long, read-whole r.2);
  check_failed = λ bytes long r. omega (arith, long, read-whole r.2);
}
