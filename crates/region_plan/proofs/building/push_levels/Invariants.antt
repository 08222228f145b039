use Rattle.std.proofs.Common.{◌≡◌, length}
use Rattle.std.specs.Prelude.{All}
use Rattle.node_set.specs.Nodes.{Nodes}
use Rattle.node_set.specs.Workspaces.{IsWorkspace}
use Rattle.region_plan.specs.Kept.{AreLevelsOf}
use Rattle.region_plan.proofs.building.push_levels.Given as goal

abbrev pub invariant-loop-i : goal.invariant-loop-i
invariant-loop-i l = record {
  levels : AreLevelsOf l.graph l.distances l.covering l.i l.levels;
  count : length l.sets ≡ l.distances.nodes;
  work : IsWorkspace l.distances.nodes l.work;
  rooms : All (λ (s : Nodes). s.room ≡ l.distances.nodes) l.sets;
}
