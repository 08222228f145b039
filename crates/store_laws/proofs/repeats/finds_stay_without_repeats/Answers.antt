use Rattle.store_laws.proofs.KeptFinds.{finds-stay}
use Rattle.store_laws.proofs.repeats.finds_stay_without_repeats.Goals as goal

pub returns : goal.returns
returns c = finds-stay c.repeats_change_nothing.ensures.cells
