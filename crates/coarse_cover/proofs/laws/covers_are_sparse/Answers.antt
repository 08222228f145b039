use Rattle.coarse_cover.proofs.Results.{covers_sparse}
use Rattle.coarse_cover.proofs.laws.covers_are_sparse.Goals as goal

pub returns : goal.returns
returns c = covers_sparse c.powers_add.ensures c.one_phase.ensures
