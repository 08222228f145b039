use Rattle.directory.proofs.StepLaws.{front-legal}
use Rattle.directory.proofs.legal.front_is_legal.Goals as goal

pub returns : goal.returns
returns c = front-legal c.mark_words.ensures.unpacked
