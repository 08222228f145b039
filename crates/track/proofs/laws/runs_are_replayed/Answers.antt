use Rattle.track.proofs.OneText.{replayed}
use Rattle.track.proofs.laws.runs_are_replayed.Goals as goal

pub returns : goal.returns
returns c = replayed c.text_says_one.ensures
