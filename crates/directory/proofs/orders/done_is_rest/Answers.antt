use Rattle.directory.proofs.StepsMade.{done-rests, done-shows}
use Rattle.directory.proofs.orders.done_is_rest.Goals as goal

pub returns : goal.returns
returns c = record {
  rests = done-rests c.mark_words.ensures.unpacked;
  shown = done-shows c.mark_words.ensures.unpacked;
}
