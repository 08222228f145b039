-- What the directory reads of a plan: with the start nodes of the subscribers it is a setting.
-- Outside of its nodes the distance is 0.
-- Key law: in stretch_laws, `plans_track` (what the directory's laws ask of a setting holds of it).
use Rattle.std.specs.Prelude.{ℕ, ◌&&◌, nat_lt, if◌then◌else◌, List}
use Rattle.directory.specs.Settings.{Setting}
use Rattle.region_plan.specs.Plan.{PlanData, nodes_of, top_of, distance, threshold, home, readers, leader, inside}

-- the setting of a plan, with these start nodes
abbrev pub setting_of : PlanData → List ℕ → Setting
setting_of plan starts =
    record {
      nodes = nodes_of plan;
      top = top_of plan;
      starts = starts;
      distance = λ u v.
          if nat_lt u (nodes_of plan) && nat_lt v (nodes_of plan) then distance plan u v else 0;
      threshold = threshold plan;
      home = home plan;
      readers = readers plan;
      leader = leader plan;
      inside = inside plan;
    }
