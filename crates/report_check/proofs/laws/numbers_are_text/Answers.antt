use Rattle.std.proofs.Common.{ap, ◌∙◌}
use Rattle.report_check.specs.Reading.{number_in}
use Rattle.report_check.proofs.ReadBack.{number-reads}
use Rattle.report_check.proofs.Texts.{number-low, number-stops, number-text}
use Rattle.report_check.proofs.laws.numbers_are_text.Goals as goal

pub returns : goal.returns
returns c limit n text rest few = (
  λ is. (number-low limit n text rest is, number-stops limit n text rest is, number-text limit n text rest few is),
  λ is. ap (number_in limit) is.2 ∙ number-reads limit n rest is.0 few is.1,
)
