use Rattle.std.proofs.Common.{rules}
use Rattle.make_load.specs.Draws.{generator_of}
use Rattle.make_load.proofs.draws.generator_of.Goals as goal

pub returns : goal.returns
unfolding generator_of
returns c = search rules
