use Rattle.directory.proofs.StepLaws.{legal-amid}
use Rattle.directory.proofs.legal.legal_is_amid.Goals as goal

pub returns : goal.returns
returns c = legal-amid c.mark_words.ensures.unpacked
