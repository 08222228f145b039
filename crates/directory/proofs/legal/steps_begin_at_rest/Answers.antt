use Rattle.directory.proofs.StepLaws.{begins-at_rest}
use Rattle.directory.proofs.legal.steps_begin_at_rest.Goals as goal

pub returns : goal.returns
returns c = begins-at_rest c.mark_words.ensures.unpacked
