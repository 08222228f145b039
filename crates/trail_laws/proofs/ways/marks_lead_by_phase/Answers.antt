use Rattle.trail_laws.proofs.Resting.{addresses-by_phase}
use Rattle.trail_laws.proofs.ways.marks_lead_by_phase.Goals as goal

pub returns : goal.returns
returns c = addresses-by_phase assumption
