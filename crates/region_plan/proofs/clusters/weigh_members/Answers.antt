use Rattle.std.proofs.Common.{rules}
use Rattle.distances.specs.TableLaws.{row_has_distances}
use Rattle.region_plan.proofs.Laying.{leader_below}
use Rattle.region_plan.proofs.clusters.weigh_members.Goals as goal

pub row-row-requires : goal.row-row-requires
row-row-requires c =
    leader_below c.requires.belongs c.requires.spanned c.requires.sound

pub inside_weights-requires-clause-row : goal.inside_weights-requires-clause-row
inside_weights-requires-clause-row c = search (rules, row_has_distances, leader_below)
