use Rattle.make_load.proofs.Words.{words_are_loads}
use Rattle.make_load.proofs.laws.words_are_loads.Goals as goal

pub returns : goal.returns
returns c = words_are_loads
