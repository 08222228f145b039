use Rattle.std.proofs.Common.{refl}
use Rattle.std.specs.Fmt.{digits}
use Rattle.report_text.proofs.examples.example_fields.Goals as goal

pub returns : goal.returns
unfolding digits
returns c = record {
  moved = refl;
  off = refl;
  found = refl;
  switched = refl;
  switched_on = refl;
  report = refl;
  unknown = refl;
  nowhere = refl;
}
