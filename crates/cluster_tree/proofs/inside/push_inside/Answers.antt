use Rattle.std.proofs.Common.{arith, refl}
use Rattle.cluster_tree.proofs.Joining.{members_below, distances_inside}
use Rattle.cluster_tree.proofs.inside.push_inside.Goals as goal

pub push_distances-requires : goal.push_distances-requires
push_distances-requires c = grind (arith, members_below)

pub returns-in_err-push_distances-clause-ordered : goal.returns-in_err-push_distances-clause-ordered
returns-in_err-push_distances-clause-ordered c = rw c.requires.members c.set_is_sound.ensures.ascending

pub returns-then-keeps_distances-clause-appended : goal.returns-then-keeps_distances-clause-appended
returns-then-keeps_distances-clause-appended c = grind (arith, c.if-keeps_distances.ensures refl, distances_inside)

pub returns-then-keeps_distances-clause-ordered : goal.returns-then-keeps_distances-clause-ordered
returns-then-keeps_distances-clause-ordered c = rw c.requires.members c.set_is_sound.ensures.ascending

pub returns-clause-ordered : goal.returns-clause-ordered
returns-clause-ordered c = rw c.requires.members c.set_is_sound.ensures.ascending
