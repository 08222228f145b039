use Rattle.std.proofs.Common.{arith}
use Rattle.distances.specs.TableLaws.{row_has_distances}
use Rattle.network_tests.proofs.tree_tests.tell_inside.Goals as goal

pub inside_weights-requires-clause-row : goal.inside_weights-requires-clause-row
inside_weights-requires-clause-row c =
    row_has_distances c.args.graph.now c.args.distances.now c.args.leader c.row-row.result.now c.requires.belongs
    (omega (arith, c.requires.inside, c.requires.belongs.nodes)) c.row-row.ensures
