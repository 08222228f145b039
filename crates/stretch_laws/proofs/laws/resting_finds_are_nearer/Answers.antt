use Rattle.stretch_laws.proofs.Nearer.{nearer}
use Rattle.stretch_laws.proofs.laws.resting_finds_are_nearer.Goals as goal

pub returns : goal.returns
returns c = nearer (assumption)
