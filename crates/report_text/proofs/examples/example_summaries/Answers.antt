use Rattle.std.proofs.Common.{refl}
use Rattle.std.specs.Fmt.{digits}
use Rattle.report_text.proofs.examples.example_summaries.Goals as goal

pub returns : goal.returns
unfolding digits
returns c = record { nothing = refl; one = refl; each = refl }
