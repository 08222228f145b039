use Rattle.std.proofs.Common.{◌≡◌, ℕ, ◌-◌, ◌<◌, false, length}
use Rattle.node_set.specs.Ascending.{has}
use Rattle.node_set.specs.Balls.{sets}
use Rattle.node_set.specs.Workspaces.{IsWorkspace, SpareTaken}
use Rattle.mean_cover.specs.HalfMade.{IsUnderWay}
use Rattle.mean_cover.proofs.covering.coarsen_mean_by_rows.Given as goal

abbrev pub invariant-first : goal.invariant-first
invariant-first l = record {
  under_way : IsUnderWay (sets l.balls) l.k l.work.waiting.members l.cover.clusters.items l.cover.home.items;
  none_before : (v : ℕ) → v < l.from → has v l.work.waiting.members ≡ false;
  sized : IsWorkspace (length l.balls) l.work;
  home_count : length l.cover.home.items ≡ length l.balls;
  spare : SpareTaken (length l.cover.clusters.items) l.initial.work.growth.spare.items l.work.growth.spare.items;
}

abbrev pub decreases-first : goal.decreases-first
decreases-first l = length l.balls - l.from
