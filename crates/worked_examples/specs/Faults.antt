-- Handsets of the line's subscriber that may not move, for several reasons at once. Key laws:
-- `worked_move_faults`, `worked_switch_faults`.
use Rattle.std.specs.Prelude.{ℕ, ◌^◌, ◌-◌, true}
use Rattle.handset.specs.Beginning.{handset_at}
use Rattle.handset.specs.Condition.{HandsetData}
use Rattle.handset.specs.declared.stage.Stage.TheVariants.{Committing}
use Rattle.plan_laws.specs.Examples.{line_of_four}

-- at node 3, and no move has a number left
abbrev pub spent_at_three : HandsetData
spent_at_three = record (handset_at line_of_four 0 3) { number = 2 ^ 32 - 1 }

-- and it is off
abbrev pub off_at_three : HandsetData
off_at_three = record spent_at_three { is_off = true }

-- and a step is under way, at a node
abbrev pub stopped_at : ℕ → HandsetData
stopped_at node = record off_at_three { place = node; stage = Committing }
