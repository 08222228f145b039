use Rattle.std.proofs.Common.{◌≡◌, ℕ, ◌-◌, ◌<◌, ◌≤◌, false, length}
use Rattle.node_set.specs.Ascending.{has}
use Rattle.coarse_cover.specs.HalfMade.{IsInPhase}
use Rattle.node_set.specs.Workspaces.{IsWorkspace, SpareTaken}
use Rattle.node_set.specs.Balls.{sets}
use Rattle.coarse_cover.proofs.phasing.make_phase.Given as goal

abbrev pub invariant-first : goal.invariant-first
invariant-first l = record {
  in_phase : IsInPhase (sets l.balls) l.k l.r l.work.waiting.members l.work.left.members l.cover.clusters.items
      l.cover.home.items l.cover.phases;
  none_before : (v : ℕ) → v < l.from → has v l.work.waiting.members ≡ false;
  sized : IsWorkspace (length l.balls) l.work;
  home_count : length l.cover.home.items ≡ length l.balls;
  phases_kept : l.cover.phases ≡ l.initial.cover.phases;
  small : l.r ≤ 1024;
  more : length l.initial.cover.clusters.items ≤ length l.cover.clusters.items;
  spare : SpareTaken (length l.cover.clusters.items - length l.initial.cover.clusters.items)
      l.initial.work.growth.spare.items l.work.growth.spare.items;
}

abbrev pub decreases-first : goal.decreases-first
decreases-first l = length l.balls - l.from
