use Rattle.mean_cover.proofs.Results.{homes_found}
use Rattle.mean_cover.proofs.laws.mean_home_means.Goals as goal

pub returns : goal.returns
returns c = homes_found
