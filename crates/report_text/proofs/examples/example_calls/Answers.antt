use Rattle.std.proofs.Common.{refl}
use Rattle.std.specs.Fmt.{digits}
use Rattle.report_text.proofs.examples.example_calls.Goals as goal

pub returns : goal.returns
unfolding digits
returns c = record {
  moved = refl;
  found = refl;
  near = refl;
  off = refl;
  switched_off = refl;
  switched_on = refl;
  empty = refl;
  no_entry = refl;
  chased = refl;
}
