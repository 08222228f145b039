use Rattle.plan_laws.proofs.Flatness.{flat_is_one}
use Rattle.plan_laws.proofs.flat.flat_is_one.Goals as goal

pub returns : goal.returns
returns c = flat_is_one
