use Rattle.std.proofs.Common.{◌≡◌, ◌-◌, ◌++◌}
use Rattle.node_set.specs.Ascending.{has, sift}
use Rattle.network_tests.proofs.tree_tests.push_members.Given as goal

abbrev pub invariant-member : goal.invariant-member
invariant-member l = l.list.items ≡ l.fn.list.items ++ sift (λ x. has x l.set.members) 0 l.from

abbrev pub decreases-member : goal.decreases-member
decreases-member l = l.set.room - l.from
