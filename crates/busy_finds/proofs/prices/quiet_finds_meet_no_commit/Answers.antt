use Rattle.busy_finds.proofs.Still.{quiet-still}
use Rattle.busy_finds.proofs.prices.quiet_finds_meet_no_commit.Goals as goal

pub returns : goal.returns
returns c = quiet-still
