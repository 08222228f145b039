use Rattle.directory.proofs.StateLaws.{commits-told, off-told}
use Rattle.directory.proofs.states.told_by_writes.Goals as goal

pub returns : goal.returns
returns c = record {
  commits = commits-told c.mark_words.ensures.unpacked;
  off = off-told c.mark_words.ensures.unpacked;
}
