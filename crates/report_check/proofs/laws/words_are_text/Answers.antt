use Rattle.std.proofs.Common.{ap, ◌∙◌}
use Rattle.report_check.specs.Reading.{word_in}
use Rattle.report_check.proofs.ReadBack.{word-reads}
use Rattle.report_check.proofs.Texts.{word-text}
use Rattle.report_check.proofs.laws.words_are_text.Goals as goal

pub returns : goal.returns
returns c word text rest = (word-text word text, λ is. ap (word_in word) is ∙ word-reads word rest)
