use Rattle.busy_finds.proofs.Doubled.{plan-few-moves}
use Rattle.busy_finds.proofs.few.plan_finds_meeting_few_moves.Goals as goal

pub returns : goal.returns
returns c = plan-few-moves c.plans_track.ensures c.finds_meeting_few_moves.ensures
