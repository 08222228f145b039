use Rattle.std.proofs.Common.{arith}
use Rattle.std.proofs.lemmas.List.{take_at}
use Rattle.region_plan.proofs.readers.ReaderLists.fill.Goals as goal

pub fill_readers-requires-clause-room : goal.fill_readers-requires-clause-room
fill_readers-requires-clause-room c = grind arith

pub fill_readers-requires-clause-readers : goal.fill_readers-requires-clause-readers
fill_readers-requires-clause-readers c = grind arith

pub fill_readers-requires-clause-weights : goal.fill_readers-requires-clause-weights
fill_readers-requires-clause-weights c = grind arith

pub returns : goal.returns
returns c = grind (arith, take_at)
