use Rattle.directory.proofs.StepLaws.{due-legal, begin-legal}
use Rattle.directory.proofs.legal.legal_next.Goals as goal

pub returns : goal.returns
returns c = record { due = due-legal c.mark_words.ensures.unpacked; begins = begin-legal c.mark_words.ensures.unpacked }
