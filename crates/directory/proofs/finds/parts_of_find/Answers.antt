use Rattle.directory.proofs.FindLaws.{climb-passes, chase-hops}
use Rattle.directory.proofs.finds.parts_of_find.Goals as goal

pub returns : goal.returns
returns c = record { climb = climb-passes; chase = chase-hops }
