-- A trail as the code keeps it, a set of nodes, and as contracts see it: for each node whether it
-- is there.
-- Key laws: `Handset::made` (a move adds its node to the trail, and may clear it before), by its
-- clause `exact`.
use Rattle.std.specs.Prelude.{Bool, List, map}
use Rattle.node_set.specs.Ascending.{has}
use Rattle.node_set.specs.Nodes.{Nodes}
use Rattle.directory.specs.Writes.{numbers_from}

-- for each number below the room of a set whether it is there
unfoldable pub flags : Nodes → List Bool
flags set = map (λ v. has v set.members) (numbers_from 0 set.room)
