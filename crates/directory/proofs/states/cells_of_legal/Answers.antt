use Rattle.directory.proofs.StateLaws.{mark-word_left, entry-word_left}
use Rattle.directory.proofs.states.cells_of_legal.Goals as goal

pub returns : goal.returns
returns c = record { marks = mark-word_left; entries = entry-word_left }
