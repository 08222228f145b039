use Rattle.store_laws.proofs.Repeated.{cells-stay, reads-stay}
use Rattle.store_laws.proofs.repeats.repeats_change_nothing.Goals as goal

pub returns-clause-cells : goal.returns-clause-cells
returns-clause-cells c = cells-stay c.same_key_means.ensures c.cell_after.ensures

pub returns-clause-reads : goal.returns-clause-reads
returns-clause-reads c = reads-stay c.same_key_means.ensures c.cell_after.ensures c.own_after.ensures.words
