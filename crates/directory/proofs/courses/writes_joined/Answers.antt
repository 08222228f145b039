use Rattle.directory.specs.StepLaws.{writes-append}
use Rattle.directory.proofs.courses.writes_joined.Goals as goal

pub returns : goal.returns
returns c = writes-append
