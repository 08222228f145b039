use Rattle.directory.proofs.MadeLaws.{lines-made, finds-follow}
use Rattle.directory.proofs.outcomes.lines_are_made.Goals as goal

pub returns : goal.returns
returns c = record { lines = lines-made; follow = finds-follow }
