use Rattle.stretch_laws.proofs.Near.{near}
use Rattle.stretch_laws.proofs.laws.quiet_finds_are_near.Goals as goal

pub returns : goal.returns
returns c = near (assumption)
