-- The search from a root without an end.
use Rattle.std.proofs.Common.{◌≡◌, ℕ, ◌+◌, ◌-◌, ◌^◌, ◌<◌, ◌≤◌, Bool, true, false, List, [], ◌∷◌, ◌++◌, take, Option, None, Some, length, set, replicate, refl, zero, suc, sym, ◌∙◌, subst, arith}
use Rattle.std.specs.Prelude.{Contains, IsPermutation}
use Rattle.std.proofs.lemmas.List.{length-set, length-replicate, take_at}
use Rattle.std.proofs.lemmas.List.Sums.{count_by-le-length}
use Rattle.net_graph.specs.declared.edge.TheConstants.{MAX_NODES, MAX_WEIGHT}
use Rattle.net_graph.specs.declared.neighbours.Arc.{Arc}
use Rattle.net_graph.specs.declared.queue.Candidate.{Candidate}
use Rattle.net_graph.specs.Walks.{Step, IsWalk, IsWalkWeight, weight_of, among}
use Rattle.net_graph.specs.WalkLaws.{among_below}
use Rattle.net_graph.specs.Network.{Network}
use Rattle.net_graph.specs.Trees.{at_node, AreLeastWeights}
use Rattle.net_graph.specs.Layout.{AreArcsOf}
use Rattle.net_graph.specs.Least.{IsAtMost}
use Rattle.net_graph.specs.Near.{HasBegun}
use Rattle.net_graph.specs.Queue.{Waiting, make_waiting, AreSettled, IsNextUnsettled}
use Rattle.net_graph.specs.Search.{IsRelaxed}
use Rattle.net_graph.proofs.Searching.{IsBounded, IsLightest, IsQueue, IsReady, IsSearch, begun_more, begun_none, from_source, next_is_lightest, queue_begins, queue_goes_on, search_begins, search_goes_on, stays_bounded, unweighed}

-- any weight fits
abbrev pub any_weight : ℕ → Type 0
any_weight w = Unit {0}

-- what the search and its queue keep
pub record IsUnderWay (network : Network) (inside : ℕ → Bool) (root : ℕ) (unsettled : List Bool)
    (weights : List (Option ℕ)) (waiting : List Waiting) : Type 0 where
  pub found : IsSearch network inside (root ∷ []) any_weight unsettled weights
  pub bounded : IsBounded network unsettled weights
  pub queue : IsQueue unsettled weights waiting

only_source : {root source : ℕ} → Contains (root ∷ []) source → root ≡ source
only_source (zero, below, here) = here
only_source (suc k, below, here) = absurd (omega arith)

-- the beginning
module _ (network : Network) (allowed : List Bool) (root : ℕ) {waiting : List Waiting} (positive : 1 ≤ network.nodes)
    (count : length allowed ≡ network.nodes) (at_root : among allowed root ≡ true)
    (pushed : IsPermutation (make_waiting 0 root ∷ []) waiting) where
  abbrev first_weights : List (Option ℕ)
  first_weights = set (replicate network.nodes None) root (Some 0)

  begun : HasBegun (root ∷ []) first_weights waiting
  begun = begun_more (begun_none (unweighed network.nodes)) root
      (omega (arith, among_below allowed root at_root, length-replicate {A = Option ℕ} network.nodes None)) pushed

  are_inside : (v : ℕ) → Contains (root ∷ []) v → (among allowed v ≡ true) × (v < network.nodes)
  are_inside v has =
      let here : among allowed v ≡ true = subst (λ u. among allowed u ≡ true) (only_source has) at_root in
      (here, omega (arith, among_below allowed v here))

  is_ready : IsReady network (among allowed) (root ∷ []) allowed first_weights waiting
  is_ready = record {
    begun = begun;
    nodes = count;
    count = length-set (replicate network.nodes None) root (Some 0)
        ∙ length-replicate {A = Option ℕ} network.nodes None;
    inner = λ v h. h;
    waits = λ v h below. h;
    are_inside = are_inside;
  }

  pub way_begins : IsUnderWay network (among allowed) root allowed first_weights waiting
  way_begins = record {
    found = search_begins is_ready any_weight;
    bounded = record {
      slack = λ v w here. omega (
        arith,
        (begun.zero v w here).0,
        count_by-le-length (λ b. b) allowed,
        count,
      );
      bounded = λ v w here. omega (arith, (begun.zero v w here).0);
    };
    queue = queue_begins is_ready;
  }

module _ {network : Network} {inside : ℕ → Bool} {root : ℕ} {unsettled : List Bool} {weights : List (Option ℕ)}
    {waiting : List Waiting} (way : IsUnderWay network inside root unsettled weights waiting) where
  pub light_enough : {best : Candidate} → IsLightest unsettled weights best → network.nodes ≤ MAX_NODES
      → best.weight ≤ 2 ^ 40
  light_enough {best} lightest few = omega (arith, way.bounded.bounded best.node best.weight lightest.weighs)

  -- one round, on a part of a longer list of weights
  pub way_goes_on : {remaining after : List Waiting} {best : Candidate} → network.nodes ≤ MAX_NODES
      → IsNextUnsettled unsettled waiting remaining best → {arcs : List Arc}
      → AreArcsOf network.nodes network.edges best.node arcs → {new : List (Option ℕ)} (rest : List (Option ℕ)) {k : ℕ}
      → IsRelaxed arcs best.weight (2 ^ 64 - 1) (set unsettled best.node false) weights new remaining after
      → length new ≡ k
      → IsUnderWay network inside root (set unsettled best.node false) (take k (new ++ rest)) after
  way_goes_on {after = after} {best} few next of_node {new} rest {k} r count =
      let lightest = next_is_lightest way.queue next in
      let light = light_enough lightest few in
      let within : (c : ℕ) → c ≤ MAX_WEIGHT → any_weight (best.weight + c) → best.weight + c ≤ 2 ^ 64 - 1 =
      λ c small fits. omega arith in
      subst (λ xs. IsUnderWay network inside root (set unsettled best.node false) xs after)
      (sym (take_at new rest k count))
      (record {
        found = search_goes_on way.found lightest of_node within r;
        bounded = stays_bounded way.found lightest of_node within r way.bounded;
        queue = queue_goes_on way.queue next r;
      })

  -- the end
  module _ (none : AreSettled unsettled waiting) where
    from_root : (steps : List Step) (v : ℕ) → IsWalk network.edges inside root steps v
        → IsAtMost (at_node weights v) (weight_of steps)
    from_root steps v walk = from_source (λ x y le fits. fits) way.found way.queue none root steps v
        (zero, omega arith, refl) walk tt

    walk_to : (v w : ℕ) → at_node weights v ≡ Some w → IsWalkWeight network.edges inside root v w
    walk_to v w here =
        let so = way.found.sound v w here in
        subst (λ u. IsWalkWeight network.edges inside u v w) (sym (only_source so.is_source)) so.walk

    pub way_ends : AreLeastWeights network inside root weights
    way_ends = record {
      count = way.found.count;
      least = λ v w below here. record {
        attained = walk_to v w here;
        least = λ steps walk. subst (λ o. IsAtMost o (weight_of steps)) here (from_root steps v walk);
      };
      unreached = λ v below here steps walk. subst (λ o. IsAtMost o (weight_of steps)) here (from_root steps v walk);
      bounded = λ v w below here. way.bounded.bounded v w here;
    }
