use Rattle.stretch_laws.proofs.PlanLaws.{plans-track}
use Rattle.stretch_laws.proofs.plans.plans_track.Goals as goal

pub returns : goal.returns
returns c = plans-track
