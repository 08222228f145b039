-- The clusters of each node, while they are written, and the weights beside them.
use Rattle.std.proofs.Common.{rules, ◌≡◌, ℕ, zero, suc, ◌+◌, ◌<◌, Bool, true, List, length, take, set, get_or, sym, ◌∙◌, ap, arith, add-zero, zero-add}
use Rattle.std.proofs.lemmas.Bool.{cases_Bool}
use Rattle.std.proofs.lemmas.List.{length-map, get_or-map}
use Rattle.node_set.specs.Ascending.{has, IsAscending, sift}
use Rattle.cluster_tree.specs.PlaceLaws.{beside_place, has_place}
use Rattle.region_plan.specs.Plan.{PlanCluster, cluster_in, weight_in}
use Rattle.region_plan.specs.Kept.{IsTable, weights_beside}
use Rattle.region_plan.specs.Readers.{AreCounts, AreWritten, HaveRoom, IsCounted, readers_below}
use Rattle.region_plan.specs.Regions.{clusters_with}
use Rattle.region_plan.proofs.Gathering.{uncounted}
use Rattle.net_graph.specs.Starts.{HavePlaces}
use Rattle.net_graph.specs.StartLaws.{places_within}
use Rattle.net_graph.specs.RowLaws.{none_filled, one_filled, rows_filled}

-- ---- one reader

-- a number that passes stands behind as many as pass below it
passing_place : (test : ℕ → Bool) (v j k : ℕ) → j < k → test (v + j) ≡ true
    → (length (sift test v j) < length (sift test v k))
    × (get_or (sift test v k) (length (sift test v j)) 0 ≡ v + j)
passing_place test v j zero short passes = absurd (omega arith)
passing_place test v zero (suc k) short passes = grind (arith, add-zero)
passing_place test v (suc j) (suc k) short passes =
    let moved : v + suc j ≡ suc v + j = omega arith in
    search (rules, cases_Bool, passing_place test (suc v) j k (omega arith) (ap test (sym moved) ∙ passes))

-- the next reader of a member
pub reader_comes : (clusters : List PlanCluster) (number v : ℕ) → number < length clusters
    → has v (cluster_in clusters number).members ≡ true
    → (length (readers_below clusters number v) < length (clusters_with clusters v))
    × (get_or (clusters_with clusters v) (length (readers_below clusters number v)) 0 ≡ number)
reader_comes clusters number v below member =
    let at = passing_place (λ c. has v (cluster_in clusters c).members) 0 number (length clusters) below
    (ap (λ c. has v (cluster_in clusters c).members) (zero-add number) ∙ member) in
    (at.0, at.1 ∙ zero-add number)

is_member : (clusters : List PlanCluster) (number i : ℕ) {members : List ℕ}
    → members ≡ (cluster_in clusters number).members → i < length members
    → has (get_or members i 0) (cluster_in clusters number).members ≡ true
is_member clusters number i {members} listed short = rw (← listed) (has_place members i short)

pub its_weight : (clusters : List PlanCluster) (number i : ℕ) {members inside : List ℕ}
    → members ≡ (cluster_in clusters number).members → i < length members
    → IsAscending (cluster_in clusters number).members → inside ≡ (cluster_in clusters number).weights
    → length inside ≡ length (cluster_in clusters number).members
    → get_or inside i 0 ≡ weight_in clusters number (get_or members i 0)
its_weight clusters number i {members} {inside} listed short ascending beside count = grind (arith, beside_place)

module _ (clusters : List PlanCluster) (number i : ℕ) {members old taken : List ℕ}
    (listed : members ≡ (cluster_in clusters number).members)
    (ascending : IsAscending (cluster_in clusters number).members) (below : number < length clusters)
    (short : i < length members) (node : get_or members i 0 < length old) (counts : AreCounts clusters number old)
    (counted : IsCounted (take i members) old taken) where
  -- the next place of a member is free, and its reader is this cluster
  pub next_free : (get_or taken (get_or members i 0) 0 < length (clusters_with clusters (get_or members i 0)))
      × (get_or (clusters_with clusters (get_or members i 0)) (get_or taken (get_or members i 0) 0) 0 ≡ number)
  next_free = grind (arith, uncounted, is_member, reader_comes)

  -- it is within the list
  pub next_within : (starts : List ℕ) → HaveRoom (length old) clusters starts
      → get_or starts (get_or members i 0) 0 + get_or taken (get_or members i 0) 0 < get_or starts (length old) 0
  next_within starts room = places_within (length old) (λ v. length (clusters_with clusters v)) starts room
      (get_or members i 0) (get_or taken (get_or members i 0) 0) node next_free.0

-- ---- the places of the nodes

module _ {n : ℕ} {clusters : List PlanCluster} {starts taken readers weights : List ℕ}
    (room : HaveRoom n clusters starts) (long : length taken ≡ n)
    (filled : AreWritten clusters starts taken readers weights)
    (readers_whole : length readers ≡ get_or starts n 0) (weights_whole : length weights ≡ get_or starts n 0) where
  as_many : (v : ℕ) → length (weights_beside clusters v) ≡ length (clusters_with clusters v)
  as_many v = length-map (clusters_with clusters v) (λ c. weight_in clusters c v)

  room_beside : HavePlaces n (λ v. length (weights_beside clusters v)) starts
  room_beside = record { count = room.count; each = λ v below. omega (arith, room.each v below, as_many v) }

  pub reader_written : (m : ℕ) → m < n → get_or taken m 0 < length (clusters_with clusters m)
      → (number weight : ℕ) → get_or (clusters_with clusters m) (get_or taken m 0) 0 ≡ number
      → weight ≡ weight_in clusters number m → AreWritten clusters starts (set taken m (get_or taken m 0 + 1))
      (set readers (get_or starts m 0 + get_or taken m 0) number)
      (set weights (get_or starts m 0 + get_or taken m 0) weight)
  reader_written m below next number weight is beside = record {
    numbers = one_filled (clusters_with clusters) room long readers_whole filled.numbers m below next number 0 is;
    beside = one_filled (weights_beside clusters) room_beside long weights_whole filled.beside m below
        (omega (arith, next, as_many m)) weight 0
        (get_or-map (λ c. weight_in clusters c m) (clusters_with clusters m) (get_or taken m 0) 0 0 next
        ∙ ap (λ c. weight_in clusters c m) is ∙ sym beside);
  }

  pub table_made : AreCounts clusters (length clusters) taken → IsTable n clusters starts readers weights
  table_made all = search (rules, rows_filled, room_beside, as_many)

pub none_written : (clusters : List PlanCluster) (starts taken readers weights : List ℕ)
    → AreCounts clusters 0 taken → AreWritten clusters starts taken readers weights
none_written clusters starts taken readers weights none = search (rules, none_filled)
