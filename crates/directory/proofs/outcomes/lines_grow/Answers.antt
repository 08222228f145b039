use Rattle.directory.proofs.GrowthLaws.{step_lines-push, caller_lines-push, callers-read, callers-kept, callers-count}
use Rattle.directory.proofs.outcomes.lines_grow.Goals as goal

pub returns : goal.returns
returns c = record {
  steps = step_lines-push;
  finds = caller_lines-push;
  read = callers-read;
  kept = callers-kept;
  count = callers-count;
}
