-- What a finished cover is, and what follows of its clusters.
use Rattle.std.proofs.lemmas.List.{append-nil, get_or-map, length-map}
use Rattle.std.proofs.Common.{◌≡◌, ℕ, suc, ◌-◌, ◌*◌, ◌^◌, ◌<◌, ◌≤◌, true, false, List, [], ◌∷◌, ◌++◌, length, get_or, map, refl, ◌∙◌, ap, arith}
use Rattle.std.specs.Prelude.{count_by, All}
use Rattle.std.proofs.lemmas.Grind.{same_number_lists}
use Rattle.std.proofs.lemmas.List.Elements.{All-nil, All-append, All-map, All-weaker}
use Rattle.node_set.specs.Ascending.{has, share}
use Rattle.whole_powers.specs.Bounds.{PowersAdd, OnePhase}
use Rattle.coarse_cover.specs.Coarsening.{without_home, all_clusters, coarsening, HomesAreFound, ClustersAreShaped, CoversAreSparse}
use Rattle.coarse_cover.specs.Covers.{cluster_list, as_cluster, IsCover, AreApart, member_lists}
use Rattle.coarse_cover.specs.HalfMade.{IsBetween}
use Rattle.coarse_cover.specs.declared.cover.Cluster.{Cluster}
use Rattle.coarse_cover.specs.declared.cover.Cover.{Cover}
use Rattle.coarse_cover.proofs.Phase.{IsPhase, apart, phase_apart}
use Rattle.coarse_cover.proofs.Whole.{ArePhases, all_homed, few_have, all_joined, phases_few, clusters_within}
use Rattle.node_set.specs.HomeLaws.{home_within, home_has}
use Rattle.node_set.specs.Balls.{ball, GrownCluster, IsShaped, home_of, centres, AreCentred, AreHomes}
use Rattle.node_set.specs.BallLaws.{union_has, length-centres, get_or-map_centres, has_centre}
use Rattle.coarse_cover.proofs.Steps.{phases_of_none, coarsening_phases}
use Rattle.coarse_cover.specs.CoverLaws.{cluster_list_nodes, count_lists, length-cluster_list}

-- ---- the end

pub is_cover : {balls : List (List ℕ)} {k : ℕ} {left : List ℕ} (cover : Cover)
    → IsBetween balls k left cover.clusters.items cover.home.items cover.phases → left ≡ []
    → length cover.home.items ≡ length balls → IsCover (length balls) (coarsening balls k) cover
unfolding cluster_list all_clusters
is_cover {balls} {k} cover between none sized =
    grind (arith, phases_of_none, append-nil, same_number_lists, length-map, length-centres, get_or-map_centres)

-- ---- clusters as they are cluster_list

-- so a cover is
pub overlap : CoversAreSparse → (balls : List (List ℕ)) (k : ℕ) {n : ℕ} {cover : Cover} (x : ℕ) → 0 < k
    → AreCentred balls → IsCover n (coarsening balls k) cover
    → count_by (λ c. has x c.members.members) cover.clusters.items ≤ cover.phases
overlap sparse balls k {n} {cover} x some centred is =
    let same : count_by (λ c. has x c.members.members) cover.clusters.items
    ≡ count_by (λ c. has x c.members) (all_clusters (coarsening balls k)) =
    ap (λ (l : List Cluster). count_by (λ (c : Cluster). has x c.members.members) l) is.clusters ∙
    (count_lists (λ (c : Cluster). c.members.members) x (cluster_list n 0 (coarsening balls k)) ∙
    (grind (arith, cluster_list_nodes, count_lists)))
    in
    omega (arith, same, is.phases, (sparse balls k some centred).1 x)

pub phases_bounded : CoversAreSparse → (balls : List (List ℕ)) (k : ℕ) {n : ℕ} {cover : Cover} → 0 < k
    → AreCentred balls → n ≡ length balls → IsCover n (coarsening balls k) cover → cover.phases ^ k ≤ k ^ k * n
phases_bounded sparse balls k {n} some centred sized is =
    rw is.phases (rw sized (sparse balls k some centred).0)

no_cluster : GrownCluster
no_cluster = record { first = 0; growths = 0; homed = []; members = [] }

-- the nodes of a cluster in the list are those of the one that was grown
nodes_at : (n i : ℕ) (all : List (List GrownCluster)) {clusters : List Cluster} → clusters ≡ cluster_list n 0 all
    → i < length (all_clusters all) → get_or (member_lists clusters) i
    [] ≡ (get_or (all_clusters all) i no_cluster).members
nodes_at n i all e h =
    ap (λ (l : List (List ℕ)). get_or l i []) (ap member_lists e ∙ cluster_list_nodes n 0 all)
    ∙ get_or-map (λ (c : GrownCluster). c.members) (all_clusters all) i no_cluster [] h

-- the cluster that is a ball's home has the ball's nodes
home_has_nodes : (balls : List (List ℕ)) (k v x : ℕ) (left : List ℕ) (all : List (List GrownCluster))
    → ArePhases balls k left all → has v left ≡ true → has x (ball balls v) ≡ true →
    has x (get_or (all_clusters all) (home_of (all_clusters all) v) no_cluster).members ≡ true
home_has_nodes balls k v x left all are waits inside =
    let clusters = all_clusters all in
    let homed = all_homed balls k left all are v waits in
    let joined = all_joined balls k left all are (home_of clusters v) no_cluster (home_within clusters v homed) in
    rw (joined.1) (search (union_has, no_cluster, home_has))

-- what follows of the clusters of a coarsening
module _ (balls : List (List ℕ)) (k : ℕ) (some : 0 < k) (centred : AreCentred balls) where
  abbrev made : List (List GrownCluster)
  made = coarsening balls k

  phases_made : ArePhases balls k (centres (length balls)) made
  phases_made = coarsening_phases balls k some centred

  pub clusters_few : {n : ℕ} {cover : Cover} → IsCover n made cover → length cover.clusters.items ≤ length balls
  clusters_few {n} is = grind (arith, length-cluster_list, length-centres, clusters_within, phases_made)

  pub growths_bounded : All (λ c. c.growths ≤ k - 1) (all_clusters made)
  growths_bounded =
      All-weaker (IsShaped balls k) (λ (c : GrownCluster). c.growths ≤ k - 1) (λ c h. omega (arith, h.0))
      (all_clusters made) (all_joined balls k (centres (length balls)) made phases_made)

  pub homes_hold : {n : ℕ} {cover : Cover} → n ≡ length balls → IsCover n made cover
      → AreHomes balls (member_lists cover.clusters.items) cover.home.items
  homes_hold {n} {cover} size is = λ v h.
      let waits = has_centre (length balls) v h in
      let home : get_or cover.home.items v 0 ≡ home_of (all_clusters made) v =
      ap (λ (l : List ℕ). get_or l v 0) is.homes
      ∙ get_or-map_centres (home_of (all_clusters made)) n v 0 (omega arith) in
      let within = home_within (all_clusters made) v
      (all_homed balls k (centres (length balls)) made phases_made v waits) in
      let count : length (member_lists cover.clusters.items) ≡ length (all_clusters made) =
      length-map cover.clusters.items (λ (c : Cluster). c.members.members)
      ∙ (ap length is.clusters ∙ length-cluster_list n 0 made)
      in (
        rw home (rw count within),
        λ x inside. rw home (rw (nodes_at n (home_of (all_clusters made) v) made is.clusters within)
            (home_has_nodes balls k v x (centres (length balls)) made phases_made waits inside)),
      )

-- ---- clusters of one phase are apart

later_phases : (n p : ℕ) (all : List (List GrownCluster)) → All (λ (d : Cluster). p ≤ d.phase) (cluster_list n p all)
unfolding cluster_list as_cluster
later_phases n p [] = All-nil (λ (d : Cluster). p ≤ d.phase)
later_phases n p (cs ∷ later) =
    All-append (λ (d : Cluster). p ≤ d.phase) (map (as_cluster n p) cs) (cluster_list n (suc p) later)
    (All-map (λ (d : Cluster). p ≤ d.phase) (as_cluster n p) cs (λ i d h. omega arith))
    (All-weaker (λ (d : Cluster). suc p ≤ d.phase) (λ (d : Cluster). p ≤ d.phase) (λ d h. omega arith)
    (cluster_list n (suc p) later) (later_phases n (suc p) later))

module _ (balls : List (List ℕ)) (k n : ℕ) where
  apart_front : (r p : ℕ) (waiting : List ℕ) (cs : List GrownCluster) (later : List (List GrownCluster))
      → IsPhase balls k r waiting cs → AreApart (cluster_list n (suc p) later)
      → AreApart (map (as_cluster n p) cs ++ cluster_list n (suc p) later)
  unfolding as_cluster
  apart_front r p waiting [] later is rest = rest
  apart_front r p waiting (c ∷ cs) later is rest = (
    All-append (λ (d : Cluster). d.phase ≡ p → share c.members d.members.members ≡ false) (map (as_cluster n p) cs)
        (cluster_list n (suc p) later)
        (All-map (λ (d : Cluster). d.phase ≡ p → share c.members d.members.members ≡ false) (as_cluster n p) cs
        (grind (arith, All-weaker, phase_apart)))
        (grind (arith, All-weaker, later_phases)),
    apart_front r p (apart balls c.members waiting) cs later is.1 rest,
  )

  apart_list : (p : ℕ) (left : List ℕ) (all : List (List GrownCluster)) → ArePhases balls k left all
      → AreApart (cluster_list n p all)
  unfolding cluster_list
  apart_list p left [] are = tt
  apart_list p left (cs ∷ later) are =
      apart_front (length left) p left cs later are.1 (apart_list (suc p) (without_home cs left) later are.2)

  pub clusters_apart : (cover : Cover) → 0 < k → AreCentred balls → IsCover n (coarsening balls k) cover
      → AreApart cover.clusters.items
  clusters_apart cover some centred is =
      rw is.clusters
      (apart_list 0 (centres (length balls)) (coarsening balls k) (coarsening_phases balls k some centred))

pub nothing_in : (xs : List ℕ) → length xs ≤ 0 → xs ≡ []
nothing_in [] h = refl
nothing_in (x ∷ xs) h = absurd (omega arith)

-- ---- laws for the layers above

pub clusters_shaped : ClustersAreShaped
clusters_shaped balls k some centred =
    all_joined balls k (centres (length balls)) (coarsening balls k) (phases_made balls k some centred)

pub homes_found : HomesAreFound
homes_found balls k v d some centred below =
    let clusters = all_clusters (coarsening balls k) in
    let homed = all_homed balls k (centres (length balls)) (coarsening balls k) (phases_made balls k some centred) v
    (has_centre (length balls) v below) in
    (home_within clusters v homed, home_has clusters v d homed)

pub covers_sparse : PowersAdd → OnePhase → CoversAreSparse
covers_sparse adds one_phase balls k some centred =
    let are = coarsening_phases balls k some centred in (
      rw (length-centres (length balls)) at
          (phases_few balls k adds one_phase (centres (length balls)) (coarsening balls k) some are),
      λ x. few_have balls k (centres (length balls)) (coarsening balls k) x are,
    )
