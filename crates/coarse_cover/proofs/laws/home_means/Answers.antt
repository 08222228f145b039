use Rattle.coarse_cover.proofs.Results.{homes_found}
use Rattle.coarse_cover.proofs.laws.home_means.Goals as goal

pub returns : goal.returns
returns c = homes_found
