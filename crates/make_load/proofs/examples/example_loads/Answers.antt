use Rattle.std.proofs.Common.{refl}
use Rattle.std.specs.Fmt.{digits}
use Rattle.make_load.specs.Draws.{draw, generator_of}
use Rattle.make_load.proofs.examples.example_loads.Goals as goal

pub returns-clause-one : goal.returns-clause-one
unfolding digits draw generator_of
returns-clause-one c = refl

pub returns-clause-two : goal.returns-clause-two
unfolding digits draw generator_of
returns-clause-two c = refl
