use Rattle.trail_laws.proofs.Short.{addresses-short, comings-short}
use Rattle.trail_laws.proofs.ways.marks_lead_shortly.Goals as goal

pub returns : goal.returns
returns c = record {
  addresses = addresses-short (assumption) (assumption) (assumption);
  comings = comings-short (assumption) (assumption);
}
