use Rattle.std.proofs.Common.{◌≡◌, ◌-◌, length}
use Rattle.coarse_cover.specs.Coarsening.{coarsening}
use Rattle.coarse_cover.specs.HalfMade.{IsBetween}
use Rattle.node_set.specs.Workspaces.{IsWorkspace, SpareTaken}
use Rattle.node_set.specs.Balls.{sets}
use Rattle.coarse_cover.proofs.coarsening.coarsen_by_rows.Given as goal

abbrev pub invariant-phase : goal.invariant-phase
invariant-phase l = record {
  between : IsBetween (sets l.balls) l.k l.work.left.members l.cover.clusters.items l.cover.home.items l.cover.phases;
  sized : IsWorkspace (length l.balls) l.work;
  home_count : length l.cover.home.items ≡ length l.balls;
  spare : SpareTaken (length l.cover.clusters.items) l.initial.work.growth.spare.items l.work.growth.spare.items;
}

abbrev pub decreases-phase : goal.decreases-phase
decreases-phase l = length (coarsening (sets l.balls) l.k) - l.cover.phases
