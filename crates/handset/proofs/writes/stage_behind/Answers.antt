use Rattle.std.proofs.Common.{rules}
use Rattle.handset.proofs.writes.stage_behind.Goals as goal

pub returns-then-level-last : goal.returns-then-level-last
returns-then-level-last c = search rules
