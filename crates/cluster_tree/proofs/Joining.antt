-- Where each member is joined to a nearer one, the weights inside a cluster are the distances.
use Rattle.std.proofs.lemmas.Bool.Decides.{nat_tests}
use Rattle.std.proofs.Common.{◌≡◌, ℕ, zero, suc, ◌+◌, ◌-◌, ◌<◌, ◌≤◌, Bool, true, List, [], ◌∷◌, ◌++◌, length, map, take, drop, get_or, refl, sym, ◌∙◌, ap, subst, inl, inr, arith}
use Rattle.std.specs.Prelude.{All, Contains, slice_index}
use Rattle.std.proofs.lemmas.List.{get_or_default, take_more, take_all, drop_at, length-map, length-append}
use Rattle.std.proofs.lemmas.List.Elements.{All-contains, Contains-push_cases}
use Rattle.std.proofs.lemmas.Bool.{cases_eq}
use Rattle.net_graph.specs.declared.neighbours.Arc.{Arc}
use Rattle.net_graph.specs.Layout.{AreArcsOf}
use Rattle.net_graph.specs.Walks.{Step, IsWalk, IsWalkWeight, everywhere}
use Rattle.net_graph.specs.declared.edge.Edge.{Edge}
use Rattle.net_graph.specs.WalkLaws.{join_turned, walk_further}
use Rattle.net_graph.specs.Network.{Network}
use Rattle.net_graph.specs.Trees.{AreDistancesFrom}
use Rattle.node_set.specs.Nodes.{Nodes, AreNodes}
use Rattle.node_set.specs.Ascending.{has, IsAscending}
use Rattle.node_set.specs.SetLaws.{below-has}
use Rattle.cluster_tree.specs.Tree.{within}
use Rattle.cluster_tree.specs.PlaceLaws.{beside_map, has_place, member_place}
use Rattle.cluster_tree.specs.Inside.{IsAppended, AreWeightsWritten, HasNearer, ComesBy, AreJoined, KeepDistances}
use Rattle.cluster_tree.proofs.Growing.{sound_tree}

-- ---- members one after another

pub leader_joined : (network : Network) (members listed : List ℕ) (leader : ℕ) (row : List ℕ) (i d : ℕ)
    → i < length listed
    → get_or listed i d ≡ leader → AreJoined network members (take i listed) leader row
    → AreJoined network members (take (i + 1) listed) leader row
leader_joined network members listed leader row i d below is so_far = rw (take_more listed i d below)
    (λ v has other. grind (arith, nat_tests, Contains-push_cases (take i listed) (get_or listed i d) v has))

pub one_joined : (network : Network) (members listed : List ℕ) (leader : ℕ) (row : List ℕ) (i d : ℕ) (arcs : List Arc)
    (far : ℕ)
    → i < length listed → AreArcsOf network.nodes network.edges (get_or listed i d) arcs
    → far ≡ slice_index row (get_or listed i d) → HasNearer members row arcs far
    → AreJoined network members (take i listed) leader row → AreJoined network members (take (i + 1) listed) leader row
one_joined network members listed leader row i d arcs far below of_node far_is nearer so_far =
    rw (take_more listed i d below)
    (λ v has other. elim (Contains-push_cases (take i listed) (get_or listed i d) v has) [
      | inl old ↦ so_far v old other
      | inr new ↦ subst (λ u. ComesBy network members row u) new (record {
        node = nearer.node;
        weight = nearer.weight;
        joined = of_node.sound nearer.node nearer.weight nearer.arc;
        positive = grind (arith, All-contains);
        member = nearer.member;
        sum = sym far_is ∙ nearer.sum;
      })
    ])

pub all_joined : (network : Network) (members listed : List ℕ) (leader : ℕ) (row : List ℕ) (i : ℕ) → length listed ≤ i
    → AreJoined network members (take i listed) leader row → AreJoined network members listed leader row
all_joined network members listed leader row i past so_far =
    rw (take_all i listed past) at so_far

-- ---- lists of distances

pub has_contained : (v : ℕ) (xs : List ℕ) → has v xs ≡ true → Contains xs v
has_contained v xs h = let place = member_place v xs h
    in (place.0, place.1, get_or_default xs place.0 v 0 place.1 ∙ place.2)

pub members_below : (set : Nodes) → AreNodes set → (n : ℕ) → set.room ≡ n → All (λ v. v < n) set.members
members_below set nodes n room k d short =
    grind (arith, get_or_default set.members k 0 d short, has_place set.members k short, below-has)

pub walk_anywhere : (edges : List Edge) (inside : ℕ → Bool) (u : ℕ) (steps : List Step) (v : ℕ)
    → IsWalk edges inside u steps v
    → IsWalk edges everywhere u steps v
walk_anywhere edges inside u [] v walk = (refl, walk.1)
walk_anywhere edges inside u (step ∷ steps) v walk = (refl, walk.1, walk_anywhere edges inside step.node steps v walk.2)

module _ (network : Network) (set : Nodes) (nodes : AreNodes set) (room : set.room ≡ network.nodes)
    (leader : ℕ) (leads : has leader set.members ≡ true) (row : List ℕ)
    (distances : AreDistancesFrom network leader row)
    (joined : AreJoined network set.members set.members leader row) where
  member_below : (v : ℕ) → has v set.members ≡ true → v < network.nodes
  member_below v member = omega (arith, below-has set.room v set.members nodes.below member, room)

  -- a walk inside is as long as the distance
  reached : (k v : ℕ) → has v set.members ≡ true → slice_index row v < k
      → IsWalkWeight network.edges (within set.members) leader v (slice_index row v)
  reached zero v member near = absurd (omega arith)
  reached (suc k) v member near = elim (cases_eq v leader) [
    | inl same ↦
        let below : leader < network.nodes = member_below leader leads in
        let none : slice_index row leader ≤ 0 = (distances.each leader below).least [] (refl, refl) in
        subst (λ u. IsWalkWeight network.edges (within set.members) leader u (slice_index row u)) (sym same)
        (record { steps = []; walk = (leads, refl); sum = omega (arith, none) })
    | inr other ↦
        let by = joined v (has_contained v set.members member) other in
        let before = reached k by.node by.member (omega (arith, by.sum, by.positive)) in
        subst (λ w. IsWalkWeight network.edges (within set.members) leader v w) (sym by.sum)
        (walk_further network.edges (within set.members) leader by.node v (slice_index row by.node) by.weight before
        member
        (join_turned network.edges v by.node by.weight by.joined))
  ]

  pub joined_keep : KeepDistances network set.members leader row
  joined_keep v member = record {
    attained = reached (slice_index row v + 1) v member (omega arith);
    least = λ steps walk. (distances.each v (member_below v member)).least steps
        (walk_anywhere network.edges (within set.members) leader steps v walk);
  }

pub distances_inside : (network : Network) (members : List ℕ) (leader : ℕ) (row old new : List ℕ)
    → KeepDistances network members leader row → new ≡ old ++ map (slice_index row) members
    → IsAppended network members leader old new
distances_inside network members leader row old new keep is = record {
  weights = map (slice_index row) members;
  appended = is;
  count = length-map members (slice_index row);
  tree = record {
    leader_is = refl;
    members_are = refl;
    each = λ v member. rw (beside_map (slice_index row) v members member) (keep v member);
  };
}

-- what is written, and its greatest weight
pub is_written : (network : Network) (members : List ℕ) (leader : ℕ) (old new : List ℕ) (start depth : ℕ)
    → IsAscending members
    → has leader members ≡ true → start ≡ length old → IsAppended network members leader old new
    → All (λ x. x ≤ depth) (take (length new - start) (drop start new))
    → (0 < length (take (length new - start) (drop start new))
    → Contains (take (length new - start) (drop start new)) depth)
    → AreWeightsWritten network members leader old new depth
is_written network members leader old new start depth ascending leads is_start made bound attained =
    let k : ℕ = length new - start in
    let long : length new ≡ length old + length made.weights = ap length made.appended
    ∙ length-append old made.weights in
    let rest : take k (drop start new) ≡ made.weights =
    ap (λ xs. take k (drop start xs)) made.appended ∙ ap (take k) (drop_at old made.weights start (sym is_start))
    ∙ take_all k made.weights (omega (arith, long, is_start)) in
    record {
      weights = made.weights;
      appended = made.appended;
      tree = made.tree;
      sound = sound_tree leader members made.weights ascending made.count leads depth
          (subst (λ xs. All (λ x. x ≤ depth) xs) rest bound)
          (subst (λ xs. 0 < length xs → Contains xs depth) rest attained);
    }
