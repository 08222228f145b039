use Rattle.make_load.specs.Load.{listing_of}
use Rattle.make_load.proofs.laws.loads_read.Goals as goal

pub returns : goal.returns
returns c = λ load is. c.listings_read.ensures (listing_of load) (c.loads_are_listings.ensures load is)
