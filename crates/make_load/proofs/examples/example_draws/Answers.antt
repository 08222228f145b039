use Rattle.std.proofs.Common.{refl}
use Rattle.make_load.specs.Draws.{draw, generator_of}
use Rattle.make_load.proofs.examples.example_draws.Goals as goal

pub returns : goal.returns
unfolding draw generator_of
returns c = refl
