use Rattle.trail_laws.proofs.Quiet.{again-cause, quiet-answers}
use Rattle.trail_laws.proofs.answers.again_has_its_cause.Goals as goal

pub returns : goal.returns
returns c = record { quiet = quiet-answers assumption; cause = again-cause assumption }
