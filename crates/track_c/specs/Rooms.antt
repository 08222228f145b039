-- How many visits a find from a node may make, and how many a move: the most looks and the most puts
-- of any over the plan, so that a member of a crew knows what to reserve.
-- Key law: `track_plan_room`, by its clause.
use Rattle.std.specs.Prelude.{ℕ, nat_le, if◌then◌else◌, [], Ok, Err}
use Rattle.directory.specs.Finds.{most_looks}
use Rattle.directory.specs.Writes.{most_writes}
use Rattle.region_plan.specs.Plan.{nodes_of}
use Rattle.region_plan.specs.Settings.{setting_of}
use Rattle.track_c.specs.Faults.{Answer}
use Rattle.track_c.specs.Held.{PlanHeld}
use Rattle.track_c.specs.declared.fault.Fault.TheVariants.{NoNode}
use Rattle.track_c.specs.declared.rooms.TrackRoom.{TrackRoom}

-- the room of a find from a node, and that of a move
abbrev pub room_told : ℕ → PlanHeld → Answer TrackRoom
room_told node held =
    if nat_le (nodes_of held.plan) node then Err NoNode
    else Ok (record {
      looks = most_looks (setting_of held.plan []) node;
      puts = most_writes (setting_of held.plan []);
    })
