-- The search for the nodes near a set: what it keeps, and what it has found at its end.
use Rattle.std.proofs.Common.{◌≡◌, ◌≢◌, ℕ, ◌+◌, ◌<◌, ◌≤◌, Bool, true, false, List, [], ◌∷◌, ◌++◌, drop, take, Option, None, Some, length, get_or, set, refl, sym, ◌∙◌, ap, subst, inl, inr, arith}
use Rattle.std.specs.Prelude.{All, AllPairs, Contains}
use Rattle.std.proofs.lemmas.Bool.{cases_eq, cases_lt}
use Rattle.std.proofs.lemmas.List.{drop_more, get_or-set_same, get_or-set_other, get_or_past, take_at}
use Rattle.std.proofs.lemmas.List.Elements.{All-contains, Contains-append_left, Contains-get_or, Contains-push, Contains-push_cases}
use Rattle.std.proofs.lemmas.List.Quantifiers.{all_pairs_push}
use Rattle.std.proofs.lemmas.Option.{same_Some, none-some}
use Rattle.net_graph.specs.declared.near.Marks.{Marks}
use Rattle.net_graph.specs.declared.neighbours.Arc.{Arc}
use Rattle.net_graph.specs.declared.queue.Candidate.{Candidate}
use Rattle.net_graph.specs.Layout.{AreArcsOf}
use Rattle.net_graph.specs.Least.{IsAtMost}
use Rattle.net_graph.specs.Near.{AreNear, HasBegun, HasEnded, IsLeastFrom, IsNoFarther, NearNodesAreWithin}
use Rattle.net_graph.specs.Network.{Network}
use Rattle.net_graph.specs.Queue.{Waiting, AreSettled, IsNextUnsettled}
use Rattle.net_graph.specs.Search.{IsRelaxed}
use Rattle.net_graph.specs.Trees.{at_node}
use Rattle.net_graph.specs.Walks.{IsWalk, Step, among, everywhere, weight_of}
use Rattle.net_graph.proofs.Elements.{first_or_later}
use Rattle.net_graph.proofs.Lowering.{at_most_some}
use Rattle.net_graph.proofs.Searching.{IsLightest, IsQueue, IsReady, IsSearch, from_source, next_is_lightest, queue_begins, queue_goes_on, search_begins, search_goes_on, weighed_is_settled}

-- what each round keeps
pub record IsNearing (network : Network) (sources : List ℕ) (radius : ℕ) (found : List ℕ) (unsettled : List Bool)
    (weights : List (Option ℕ)) (waiting : List Waiting) : Type 0 where
  pub so_far : IsSearch network everywhere sources (λ w. w ≤ radius) unsettled weights
  pub queue : IsQueue unsettled weights waiting
  pub light : (v w : ℕ) → at_node weights v ≡ Some w → w ≤ radius
  pub settled : (v : ℕ) → v < network.nodes → among unsettled v ≡ false → Contains found v
  pub listed : (v : ℕ) → Contains found v → (v < network.nodes) × (among unsettled v ≡ false)
  pub once : AllPairs (λ x y. x ≢ y) found
  pub ordered : AllPairs (IsNoFarther weights) found

weight_below : (weights : List (Option ℕ)) (v w : ℕ) → at_node weights v ≡ Some w → v < length weights
weight_below weights v w here = grind (arith, cases_lt, get_or_past, none-some)

-- nodes that have a weight or are settled are among these, which are to be cleared
pub record IsCleared (n : ℕ) (left : List ℕ) (unsettled : List Bool) (weights : List (Option ℕ)) : Type 0 where
  pub weighed : (v w : ℕ) → at_node weights v ≡ Some w → Contains left v
  pub settled : (v : ℕ) → v < n → among unsettled v ≡ false → Contains left v

pub clears : {n x : ℕ} {left : List ℕ} {unsettled : List Bool} {weights : List (Option ℕ)}
    → IsCleared n (x ∷ left) unsettled weights → x < length weights → x < length unsettled
    → IsCleared n left (set unsettled x true) (set weights x None)
clears {n} {x} {left} {unsettled} {weights} so below low = record {
  weighed = λ v w here. elim (cases_eq v x) [
    | inl same ↦ absurd (none-some w (sym (get_or-set_same weights x None None below)
        ∙ ap (at_node (set weights x None)) (sym same) ∙ here))
    | inr other ↦ elim (first_or_later v x left (so.weighed v w (sym (get_or-set_other weights x v None None other)
        ∙ here))) [ inl same ↦ absurd (other (sym same)) | inr later ↦ later ]
  ];
  settled = λ v small gone. elim (cases_eq v x) [
    | inl same ↦
        let both : true ≡ false = sym (get_or-set_same unsettled x true false low)
        ∙ ap (among (set unsettled x true)) (sym same) ∙ gone in cc
    | inr other ↦ elim (first_or_later v x left (so.settled v small
        (sym (get_or-set_other unsettled x v true false other) ∙ gone))) [
          | inl same ↦ absurd (other (sym same))
          | inr later ↦ later
        ]
  ];
}

pub clears_next : {n : ℕ} (found : List ℕ) (i d : ℕ) {unsettled : List Bool} {weights : List (Option ℕ)}
    → i < length found → IsCleared n (drop i found) unsettled weights → get_or found i d < length weights
    → get_or found i d < length unsettled
    → IsCleared n (drop (i + 1) found) (set unsettled (get_or found i d) true) (set weights (get_or found i d) None)
clears_next {n} found i d {unsettled} {weights} lt so below low =
    clears (subst (λ xs. IsCleared n xs unsettled weights) (drop_more found i d lt) so) below low

-- the beginning
is_ready : (network : Network) {sources : List ℕ} {unsettled : List Bool} {weights : List (Option ℕ)}
    {waiting : List Waiting} → HasBegun sources weights waiting → All (λ v. v < network.nodes) sources
    → length unsettled ≡ network.nodes → length weights ≡ network.nodes
    → ((v : ℕ) → v < network.nodes → among unsettled v ≡ true)
    → IsReady network everywhere sources unsettled weights waiting
is_ready network {sources} begun below nodes count waits = record {
  begun = begun;
  nodes = nodes;
  count = count;
  inner = λ v h. refl;
  waits = λ v h low. waits v low;
  are_inside = λ v has. (refl, All-contains (λ v. v < network.nodes) sources v below has);
}

pub nearing_begins : (network : Network) {sources : List ℕ} (radius : ℕ) {unsettled : List Bool}
    {weights : List (Option ℕ)} {waiting : List Waiting} → HasBegun sources weights waiting
    → All (λ v. v < network.nodes) sources → length unsettled ≡ network.nodes → length weights ≡ network.nodes
    → ((v : ℕ) → v < network.nodes → among unsettled v ≡ true)
    → IsNearing network sources radius [] unsettled weights waiting
nearing_begins network radius begun below nodes count waits =
    let ready = is_ready network begun below nodes count waits in
    record {
      so_far = search_begins ready (λ w. w ≤ radius);
      queue = queue_begins ready;
      light = λ v w here. omega (arith, (begun.zero v w here).0);
      settled = λ v low gone. let both : true ≡ false = sym (waits v low) ∙ gone in cc;
      listed = λ v has. absurd (omega (arith, has.1));
      once = λ i j d lt within. absurd (omega arith);
      ordered = λ i j d lt within. absurd (omega arith);
    }

-- the same, on a part of a longer list of weights
pub spread_begins : (network : Network) {sources : List ℕ} (radius : ℕ) {found : List ℕ} {unsettled : List Bool}
    {weights : List (Option ℕ)} {waiting : List Waiting} (rest : List (Option ℕ)) {k : ℕ} → found ≡ []
    → HasBegun sources weights waiting → All (λ v. v < network.nodes) sources → length unsettled ≡ network.nodes
    → length weights ≡ network.nodes → ((v : ℕ) → v < network.nodes → among unsettled v ≡ true)
    → length weights ≡ k → IsNearing network sources radius found unsettled (take k (weights ++ rest)) waiting
spread_begins network radius {weights = weights} rest {k} none begun below nodes count waits long =
    rw (none, take_at weights rest k long) (nearing_begins network radius begun below nodes count waits)

module _ {network : Network} {sources : List ℕ} {radius : ℕ} {found : List ℕ} {unsettled : List Bool}
    {weights : List (Option ℕ)} {waiting : List Waiting}
    (way : IsNearing network sources radius found unsettled weights waiting) where
  pub light_enough : {remaining : List Waiting} {best : Candidate}
      → IsNextUnsettled unsettled waiting remaining best → best.weight ≤ radius
  light_enough {best = best} next = way.light best.node best.weight (next_is_lightest way.queue next).weighs

  -- one round
  module _ {remaining after : List Waiting} {best : Candidate}
      (next : IsNextUnsettled unsettled waiting remaining best) {arcs : List Arc}
      (of_node : AreArcsOf network.nodes network.edges best.node arcs) {new : List (Option ℕ)}
      (r : IsRelaxed arcs best.weight radius (set unsettled best.node false) weights new remaining after) where
    lightest : IsLightest unsettled weights best
    lightest = next_is_lightest way.queue next

    settled_still : (v : ℕ) → among unsettled v ≡ false → among (set unsettled best.node false) v ≡ false
    settled_still v gone = elim (cases_eq v best.node) [
      | inl same ↦ ap (among (set unsettled best.node false)) same
          ∙ get_or-set_same unsettled best.node false false next.below
      | inr other ↦ get_or-set_other unsettled best.node v false false other ∙ gone
    ]

    settled_now : (v : ℕ) → v < network.nodes → among (set unsettled best.node false) v ≡ false
        → Contains (found ++ best.node ∷ []) v
    settled_now v below gone = elim (cases_eq v best.node) [
      | inl same ↦ subst (Contains (found ++ best.node ∷ [])) (sym same) (Contains-push found best.node)
      | inr other ↦ Contains-append_left found (best.node ∷ []) v
          (way.settled v below (sym (get_or-set_other unsettled best.node v false false other) ∙ gone))
    ]

    listed_now : (v : ℕ) → Contains (found ++ best.node ∷ []) v
        → (v < network.nodes) × (among (set unsettled best.node false) v ≡ false)
    listed_now v has = elim (Contains-push_cases found best.node v has) [
      | inl old ↦ let y = way.listed v old in (y.0, settled_still v y.1)
      | inr same ↦ (
        omega (arith, same, next.below, way.so_far.nodes),
        ap (among (set unsettled best.node false)) (sym same)
            ∙ get_or-set_same unsettled best.node false false next.below,
      )
    ]

    not_best : (v : ℕ) → Contains found v → v ≢ best.node
    not_best v has same =
        let both : true ≡ false = sym next.waits ∙ ap (among unsettled) (sym same) ∙ (way.listed v has).1 in cc

    kept : (v : ℕ) → Contains found v → at_node new v ≡ at_node weights v
    kept v has = r.kept v (settled_still v (way.listed v has).1)

    ordered_before : AllPairs (IsNoFarther new) found
    ordered_before i j d lt within a b here there =
        let one = Contains-get_or found i d (omega arith) in
        let other = Contains-get_or found j d within in
        way.ordered i j d lt within a b (sym (kept (get_or found i d) one) ∙ here)
        (sym (kept (get_or found j d) other) ∙ there)

    best_is_last : (k d : ℕ) → k < length found → IsNoFarther new (get_or found k d) best.node
    best_is_last k d below a b here there =
        let has = Contains-get_or found k d below in
        let gone = r.kept best.node (get_or-set_same unsettled best.node false false next.below) in
        way.so_far.lightest (get_or found k d) best.node a b (way.listed (get_or found k d) has).1
        (sym (kept (get_or found k d) has) ∙ here) next.waits (sym gone ∙ there)

    light_now : (v w : ℕ) → at_node new v ≡ Some w → w ≤ radius
    light_now v w here = elim (r.cause v w here) [ inl old ↦ way.light v w old | inr through ↦ through.within ]

    pub nearing_goes_on : IsNearing network sources radius (found ++ best.node ∷ []) (set unsettled best.node false)
        new after
    nearing_goes_on = record {
      so_far = search_goes_on way.so_far lightest of_node (λ c small fits. fits) r;
      queue = queue_goes_on way.queue next r;
      light = light_now;
      settled = settled_now;
      listed = listed_now;
      once = all_pairs_push (λ x y. x ≢ y) found best.node way.once
          (λ k d below. not_best (get_or found k d) (Contains-get_or found k d below));
      ordered = all_pairs_push (IsNoFarther new) found best.node ordered_before best_is_last;
    }

  -- the same, on a part of a longer list of weights
  pub spread_goes_on : {remaining after : List Waiting} {best : Candidate}
      → IsNextUnsettled unsettled waiting remaining best → {arcs : List Arc}
      → AreArcsOf network.nodes network.edges best.node arcs → {new : List (Option ℕ)} (rest : List (Option ℕ))
      → IsRelaxed arcs best.weight radius (set unsettled best.node false) weights new remaining after
      → {found_now : List ℕ} → found_now ≡ found ++ best.node ∷ [] → {k : ℕ} → length new ≡ k
      → IsNearing network sources radius found_now (set unsettled best.node false) (take k (new ++ rest)) after
  spread_goes_on next of_node {new} rest r is {k} long =
      rw (is, take_at new rest k long) (nearing_goes_on next of_node r)

  -- the end
  module _ (none : AreSettled unsettled waiting) where
    settled_at_end : (v w : ℕ) → at_node weights v ≡ Some w → among unsettled v ≡ false
    settled_at_end = weighed_is_settled (λ x y le fits. omega arith) way.so_far way.queue none

    has_below : (v w : ℕ) → at_node weights v ≡ Some w → v < network.nodes
    has_below v w here = omega (arith, weight_below weights v w here, way.so_far.count)

    listed_at_end : (v w : ℕ) → at_node weights v ≡ Some w → Contains found v
    listed_at_end v w here = way.settled v (has_below v w here) (settled_at_end v w here)

    reached : (source : ℕ) (steps : List Step) (v : ℕ) → Contains sources source
        → IsWalk network.edges everywhere source steps v → weight_of steps ≤ radius
        → IsAtMost (at_node weights v) (weight_of steps)
    reached = from_source (λ x y le fits. omega arith) way.so_far way.queue none

    is_least : (v w : ℕ) → at_node weights v ≡ Some w → IsLeastFrom network.edges everywhere sources v w
    is_least v w here = record {
      attained = way.so_far.sound v w here;
      least = λ source steps has walk. elim (cases_lt radius (weight_of steps)) [
        | inl past ↦ omega (arith, way.light v w here)
        | inr within ↦
            let y = at_most_some (at_node weights v) (weight_of steps) (reached source steps v has walk (omega arith)) in
            omega (arith, y.2, same_Some y.0 w (sym y.1 ∙ here))
      ];
    }

    pub are_near : AreNear network sources radius (record { nodes = found; weights = weights })
    are_near = record {
      weighed = λ v has.
          let low = way.listed v has in
          let y = way.so_far.settled v refl low.1 low.0 in
          (y.0, y.1, way.light v y.0 y.1, is_least v y.0 y.1);
      listed = listed_at_end;
      whole = λ source v steps has walk within.
          let y = at_most_some (at_node weights v) (weight_of steps) (reached source steps v has walk within) in
          listed_at_end v y.0 y.1;
      once = way.once;
      ordered = way.ordered;
    }

    is_clearable : (v : ℕ) → v < length unsettled → among unsettled v ≡ false → Contains found v
    is_clearable v below gone = way.settled v (omega (arith, way.so_far.nodes)) gone

    found_below : All (λ v. v < length weights) found
    found_below k d below =
        omega (arith, (way.listed (get_or found k d) (Contains-get_or found k d below)).0, way.so_far.count)

pub nearing_ends : {network : Network} {sources : List ℕ} {radius : ℕ} (marks : Marks) {waiting : List Waiting}
    → IsNearing network sources radius marks.found.items marks.unsettled.items marks.weights.items waiting
    → AreSettled marks.unsettled.items waiting → HasEnded network sources radius marks
nearing_ends marks way none = record {
  near = are_near way none;
  clearable = record {
    count = way.so_far.nodes ∙ sym way.so_far.count;
    below = found_below way none;
    weighed = listed_at_end way none;
    settled = is_clearable way none;
  };
}

pub near_just_within : NearNodesAreWithin
near_just_within network sources radius found v w near least = (
  λ has.
      let y = near.weighed v has in
      let so = least.attained in
      let other = y.3.attained in
      omega (
        arith,
        y.2,
        so.walk.sum,
        other.walk.sum,
        least.least other.source other.walk.steps other.is_source other.walk.walk,
      ),
  λ within.
      let so = least.attained in
      near.whole so.source v so.walk.steps so.is_source so.walk.walk (omega (arith, so.walk.sum)),
)
