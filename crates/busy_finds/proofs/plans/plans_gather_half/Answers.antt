use Rattle.busy_finds.proofs.Bounded.{gather-half}
use Rattle.busy_finds.proofs.plans.plans_gather_half.Goals as goal

pub returns : goal.returns
returns c = gather-half
