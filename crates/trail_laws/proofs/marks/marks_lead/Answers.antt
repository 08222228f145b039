use Rattle.trail_laws.proofs.Laws.{addresses-lead, comings-lead}
use Rattle.trail_laws.proofs.Rising.{numbers-go_up}
use Rattle.trail_laws.proofs.marks.marks_lead.Goals as goal

pub returns : goal.returns
returns c = record {
  addresses = addresses-lead assumption;
  comings = comings-lead assumption;
  numbers = numbers-go_up (assumption) (assumption);
}
