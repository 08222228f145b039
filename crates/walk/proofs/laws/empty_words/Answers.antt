use Rattle.walk.proofs.Readers.{nothing-below}
use Rattle.walk.proofs.laws.empty_words.Goals as goal

pub returns : goal.returns
returns c = nothing-below
