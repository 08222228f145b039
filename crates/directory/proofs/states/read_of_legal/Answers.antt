use Rattle.directory.proofs.StateLaws.{mark-read, entry-read}
use Rattle.directory.proofs.states.read_of_legal.Goals as goal

pub returns : goal.returns
returns c = record {
  marks = mark-read c.mark_words.ensures.unpacked;
  entries = entry-read c.address_words.ensures.unpacked;
}
