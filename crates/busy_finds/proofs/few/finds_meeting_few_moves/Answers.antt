use Rattle.busy_finds.proofs.Doubled.{few-moves}
use Rattle.busy_finds.proofs.few.finds_meeting_few_moves.Goals as goal

pub returns : goal.returns
returns c = few-moves c.laws_below.ensures
