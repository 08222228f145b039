use Rattle.directory.proofs.StateLaws.{small-made}
use Rattle.directory.proofs.states.writes_are_small.Goals as goal

pub returns : goal.returns
returns c = small-made
