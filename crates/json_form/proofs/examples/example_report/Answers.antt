use Rattle.std.proofs.Common.{refl}
use Rattle.std.specs.Fmt.{digits}
use Rattle.json.specs.Print.{escape_byte}
use Rattle.json_form.proofs.examples.example_report.Goals as goal

pub returns-clause-climbed : goal.returns-clause-climbed
unfolding digits escape_byte
returns-clause-climbed c = refl

pub returns-clause-without : goal.returns-clause-without
unfolding digits escape_byte
returns-clause-without c = refl
