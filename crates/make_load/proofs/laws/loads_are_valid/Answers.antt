use Rattle.make_load.proofs.laws.loads_are_valid.Goals as goal

pub returns : goal.returns
returns c = λ load is. (c.loads_are_listings.ensures load is).valid
