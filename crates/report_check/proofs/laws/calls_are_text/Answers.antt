use Rattle.std.proofs.Common.{ap, ◌∙◌}
use Rattle.report_check.specs.Reading.{call_in}
use Rattle.report_check.proofs.CallForms.{call-formed}
use Rattle.report_check.proofs.CallTexts.{call-text}
use Rattle.report_check.proofs.ReadBack.{call-reads}
use Rattle.report_check.proofs.laws.calls_are_text.Goals as goal

pub returns : goal.returns
returns c bounds slot text rest call few short = (
  λ is.
      let formed = call-formed bounds slot text rest call is in
      (formed.0, formed.1, call-text bounds slot text rest call few short is),
  λ is.
      ap (call_in bounds slot) is.2
      ∙ rw is.0 at (call-reads bounds call rest few short is.1),
)
