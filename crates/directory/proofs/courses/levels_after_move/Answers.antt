use Rattle.std.proofs.Common.{arith, length-append}
use Rattle.std.proofs.Math.ListN.{drop_of_length-le}
use Rattle.std.proofs.lemmas.List.{drop-append-le, get_or_append_left, get_or_at, length-map, map-append}
use Rattle.std.proofs.lemmas.List.Sums.{sum_by_push}
use Rattle.directory.proofs.HistoryLaws.{base-after}
use Rattle.directory.proofs.LevelLaws.{base-few, numbered-steps}
use Rattle.directory.proofs.courses.levels_after_move.Goals as goal

pub returns-clause-gathered : goal.returns-clause-gathered
returns-clause-gathered c =
    grind (arith, base-after, drop_of_length-le, length-append, drop-append-le, base-few, sum_by_push, numbered-steps)

pub returns-clause-address : goal.returns-clause-address
returns-clause-address c =
    grind (arith, base-after, map-append, length-map, get_or_at, get_or_append_left, base-few, numbered-steps)
