use Rattle.directory.proofs.StepLaws.{script-legal}
use Rattle.directory.proofs.legal.script_is_legal.Goals as goal

pub returns : goal.returns
returns c = script-legal c.mark_words.ensures.unpacked
