use Rattle.make_load.proofs.Valid.{listing-is}
use Rattle.make_load.proofs.laws.loads_are_listings.Goals as goal

pub returns : goal.returns
returns c = listing-is
