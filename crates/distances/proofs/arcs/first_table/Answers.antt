use Rattle.std.proofs.Common.{rules}
use Rattle.std.proofs.lemmas.List.{take_at}
use Rattle.distances.proofs.arcs.first_table.Goals as goal

pub returns : goal.returns
returns c = search (rules, take_at)
