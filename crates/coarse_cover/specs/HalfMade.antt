-- How far the making of a cover has come: what is done, followed by what the definition gives for
-- the balls that are left, is what it gives for all. Only the private functions of this crate speak
-- of it.
-- Key law: `make_phase` keeps that the cover is between two phases (`IsBetween`).
use Rattle.std.specs.Prelude.{◌≡◌, ℕ, ◌+◌, ◌<◌, ◌≤◌, true, cond, not, List, [], ◌∷◌, ◌++◌, length, slice_index, filter}
use Rattle.node_set.specs.Ascending.{has, IsAscending}
use Rattle.coarse_cover.specs.Coarsening.{phase, phases, without_home, all_clusters, coarsening}
use Rattle.coarse_cover.specs.Covers.{cluster_list, as_cluster}
use Rattle.coarse_cover.specs.declared.cover.Cluster.{Cluster}
use Rattle.coarse_cover.specs.declared.cover.Cover.{Cover}
use Rattle.node_set.specs.Balls.{ball, touches, GrownCluster, home_of}
use Rattle.node_set.specs.declared.workspace.Workspace.{Workspace}

-- the clusters of a phase, from these waiting balls on
unfoldable pub phase_of : List (List ℕ) → ℕ → ℕ → List ℕ → List GrownCluster
phase_of balls k r waiting = phase balls k r (length waiting) waiting

-- the phases, from these balls on
unfoldable pub phases_of : List (List ℕ) → ℕ → List ℕ → List (List GrownCluster)
phases_of balls k left = phases balls k (length left) left

-- what a phase begins with
pub record IsReady (balls : List (List ℕ)) (k r : ℕ) (waiting : List ℕ) : Type 0 where
  pub some : 0 < k
  pub fits : length waiting ≤ r
  pub ascending : IsAscending waiting
  pub centred : (v : ℕ) → has v waiting ≡ true → has v (ball balls v) ≡ true

-- these clusters and homes, made up to phase p, followed by what comes later, are those of all
-- phases
pub record Agrees (n : ℕ) (all later : List (List GrownCluster)) (left : List ℕ)
    (clusters : List Cluster) (home : List ℕ) (p : ℕ) : Type 0 where
  pub clusters_so_far : clusters ++ cluster_list n p later ≡ cluster_list n 0 all
  pub homes_so_far : (v : ℕ) → v < n
      → cond (has v left) (length clusters + home_of (all_clusters later) v) (slice_index home v)
      ≡ home_of (all_clusters all) v
  pub phases_so_far : p + length later ≡ length all

-- within a phase
pub record IsInPhase (balls : List (List ℕ)) (k r : ℕ) (waiting left : List ℕ)
    (clusters : List Cluster) (home : List ℕ) (p : ℕ) : Type 0 where
  pub ready : IsReady balls k r waiting
  pub left_ready : IsReady balls k (length left) left
  pub waiting_left : (v : ℕ) → has v waiting ≡ true → has v left ≡ true
  pub so_far : Agrees (length balls) (coarsening balls k)
      (phase_of balls k r waiting ∷ phases_of balls k
      (without_home (phase_of balls k r waiting) left)) left clusters home p

-- between two phases
pub record IsBetween (balls : List (List ℕ)) (k : ℕ) (left : List ℕ) (clusters : List Cluster)
    (home : List ℕ) (p : ℕ) : Type 0 where
  pub left_ready : IsReady balls k (length left) left
  pub so_far : Agrees (length balls) (coarsening balls k) (phases_of balls k left) left clusters
      home p

-- the cluster c was added: its balls have their home and are left no more, those that touch it wait
-- no more
pub record IsAdded (n : ℕ) (balls : List (List ℕ)) (c : GrownCluster) (old new : Workspace)
    (before after : Cover) : Type 0 where
  pub waiting : new.waiting.members
      ≡ filter (λ v. not (touches balls c.members v)) old.waiting.members
  pub left : new.left.members ≡ filter (λ v. not (has v c.homed)) old.left.members
  pub clusters : after.clusters.items ≡ before.clusters.items ++ as_cluster n before.phases c ∷ []
  pub homes : (v : ℕ) → v < n
      → slice_index after.home.items v ≡
      cond (has v c.homed) (length before.clusters.items) (slice_index before.home.items v)
  pub phases : after.phases ≡ before.phases
  pub home_count : length after.home.items ≡ n
