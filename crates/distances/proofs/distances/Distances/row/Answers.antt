use Rattle.std.proofs.Common.{rules}
use Rattle.distances.specs.TableLaws.{part_is_row}
use Rattle.distances.proofs.distances.Distances.row.Goals as goal

pub returns : goal.returns
returns c = search (rules, part_is_row)
