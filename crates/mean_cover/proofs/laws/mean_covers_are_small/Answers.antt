use Rattle.mean_cover.proofs.Results.{covers_small}
use Rattle.mean_cover.proofs.laws.mean_covers_are_small.Goals as goal

pub returns : goal.returns
returns c = covers_small c.powers_add.ensures
