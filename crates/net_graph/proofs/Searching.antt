-- A search from some sources as a whole: what it keeps, and that least weights are left when no unsettled node has a
-- weight. It goes as far as a weight fits: without an end from a root, or up to a radius.
use Rattle.std.proofs.Common.{◌≡◌, ◌≢◌, ◌⊎◌, ℕ, ◌+◌, ◌-◌, ◌*◌, ◌<◌, ◌≤◌, Bool, true, false, cond, List, [], ◌∷◌, ◌++◌, Option, None, Some, length, set, replicate, refl, sym, ◌∙◌, ap, subst, inl, inr, arith}
use Rattle.std.specs.Prelude.{Contains, IsPermutation}
use Rattle.std.specs.List.{count_by}
use Rattle.std.proofs.lemmas.List.{length-set, get_or-set_same, get_or-set_other, get_or_past, get_or-replicate, length-replicate}
use Rattle.std.proofs.lemmas.List.Elements.{All-contains, Contains-append_left, Contains-push, Contains-push_cases}
use Rattle.std.proofs.lemmas.List.Sums.{sum_by-set}
use Rattle.std.proofs.lemmas.Bool.{cases_eq, cases_lt, cases_Bool}
use Rattle.net_graph.specs.declared.edge.TheConstants.{MAX_WEIGHT}
use Rattle.net_graph.specs.declared.neighbours.Arc.{Arc}
use Rattle.net_graph.specs.declared.queue.Candidate.{Candidate}
use Rattle.net_graph.specs.Walks.{Joins, Step, IsWalk, weight_of, among}
use Rattle.net_graph.specs.Network.{Network}
use Rattle.net_graph.specs.Trees.{at_node}
use Rattle.net_graph.specs.Layout.{make_arc, IsArc, AreArcsOf}
use Rattle.net_graph.specs.Least.{IsAtMost}
use Rattle.net_graph.specs.Near.{HasBegun, IsReachedFrom}
use Rattle.net_graph.specs.Queue.{Waiting, make_waiting, AreSettled, IsNextUnsettled}
use Rattle.net_graph.specs.Search.{IsRelaxed}
use Rattle.std.proofs.lemmas.List.Sorted.{Contains-permutation, IsPermutation-sym}
use Rattle.net_graph.specs.WalkLaws.{among_below, walk_further, walk_begins}
use Rattle.net_graph.proofs.Elements.{first, first_or_later, later}
use Rattle.net_graph.proofs.Lowering.{at_most_trans, at_most_some}
use Rattle.std.proofs.lemmas.Option.{same_Some, none-some}

-- how many nodes are unsettled
abbrev pub unsettled_count : List Bool → ℕ
unsettled_count unsettled = count_by (λ b. b) unsettled

-- what each round of the search keeps
pub record IsSearch (network : Network) (inside : ℕ → Bool) (sources : List ℕ) (fits : ℕ → Type 0)
    (unsettled : List Bool) (weights : List (Option ℕ)) : Type 0 where
  pub nodes : length unsettled ≡ network.nodes
  pub count : length weights ≡ network.nodes
  pub start : (v : ℕ) → Contains sources v → IsAtMost (at_node weights v) 0
  pub inner : (v : ℕ) → among unsettled v ≡ true → inside v ≡ true
  pub settled : (v : ℕ) → inside v ≡ true → among unsettled v ≡ false → v < network.nodes
      → (w : ℕ) × (at_node weights v ≡ Some w)
  pub sound : (v w : ℕ) → at_node weights v ≡ Some w → IsReachedFrom network.edges inside sources v w
  pub closed : (u v w c : ℕ) → among unsettled u ≡ false → at_node weights u ≡ Some w → inside v ≡ true
      → Joins network.edges u v c → fits (w + c) → IsAtMost (at_node weights v) (w + c)
  pub lightest : (u v x y : ℕ) → among unsettled u ≡ false → at_node weights u ≡ Some x → among unsettled v ≡ true
      → at_node weights v ≡ Some y → x ≤ y

-- the weights that a search without an end has found fit into numbers
pub record IsBounded (network : Network) (unsettled : List Bool) (weights : List (Option ℕ)) : Type 0 where
  pub slack : (v w : ℕ) → at_node weights v ≡ Some w
      → w + unsettled_count unsettled * MAX_WEIGHT ≤ network.nodes * MAX_WEIGHT
  pub bounded : (v w : ℕ) → at_node weights v ≡ Some w → w ≤ (network.nodes - 1) * MAX_WEIGHT

-- the best is an unsettled node with its weight, and no unsettled node weighs less
pub record IsLightest (unsettled : List Bool) (weights : List (Option ℕ)) (best : Candidate) : Type 0 where
  pub waits : among unsettled best.node ≡ true
  pub weighs : at_node weights best.node ≡ Some best.weight
  pub lightest : (v w : ℕ) → among unsettled v ≡ true → at_node weights v ≡ Some w → best.weight ≤ w

-- each unsettled node that has a weight waits at it, and none waits at less than its weight
pub record IsQueue (unsettled : List Bool) (weights : List (Option ℕ)) (waiting : List Waiting) : Type 0 where
  pub below : (w v : ℕ) → Contains waiting (make_waiting w v) → v < length unsettled
  pub whole : (v w : ℕ) → among unsettled v ≡ true → at_node weights v ≡ Some w → Contains waiting (make_waiting w v)
  pub light : (w v : ℕ) → Contains waiting (make_waiting w v) → among unsettled v ≡ true
      → IsAtMost (at_node weights v) w

true_is_not_false : {b : Bool} → b ≡ true → b ≡ false → ⊥
true_is_not_false h k = let both : true ≡ false = sym h ∙ k in cc

-- the beginning, where the sources alone have a weight
pub unweighed : (n v w : ℕ) → at_node (replicate n None) v ≡ Some w → ⊥
unweighed n v w here = grind (arith, cases_lt, get_or-replicate, none-some, get_or_past, length-replicate)

module _ {sources : List ℕ} {weights : List (Option ℕ)} {waited waiting : List Waiting}
    (begun : HasBegun sources weights waited) (source : ℕ) (below : source < length weights)
    (pushed : IsPermutation (make_waiting 0 source ∷ waited) waiting) where
  one_waits : (w v : ℕ) → Contains waiting (make_waiting w v)
      → (make_waiting 0 source ≡ make_waiting w v) ⊎ Contains waited (make_waiting w v)
  one_waits w v has = first_or_later (make_waiting w v) (make_waiting 0 source) waited
      (Contains-permutation waiting (make_waiting 0 source ∷ waited) (make_waiting w v)
      (IsPermutation-sym (make_waiting 0 source ∷ waited) waiting pushed) has)

  waits_on : (w v : ℕ) → Contains waited (make_waiting w v) → Contains waiting (make_waiting w v)
  waits_on w v has = Contains-permutation (make_waiting 0 source ∷ waited) waiting (make_waiting w v) pushed
      (later (make_waiting w v) (make_waiting 0 source) waited has)

  here_now : at_node (set weights source (Some 0)) source ≡ Some 0
  here_now = get_or-set_same weights source (Some 0) None below

  other_now : (v : ℕ) → v ≢ source → at_node (set weights source (Some 0)) v ≡ at_node weights v
  other_now v other = get_or-set_other weights source v (Some 0) None other

  zero_now : (v w : ℕ) → at_node (set weights source (Some 0)) v ≡ Some w
      → (w ≡ 0) × Contains (sources ++ source ∷ []) v
  zero_now v w here = elim (cases_eq v source) [
    | inl same ↦ (
      same_Some w 0 (sym here ∙ ap (at_node (set weights source (Some 0))) same ∙ here_now),
      subst (Contains (sources ++ source ∷ [])) (sym same) (Contains-push sources source),
    )
    | inr other ↦
        let old = begun.zero v w (sym (other_now v other) ∙ here) in
        (old.0, Contains-append_left sources (source ∷ []) v old.1)
  ]

  there_now : (v : ℕ) → Contains (sources ++ source ∷ []) v → at_node (set weights source (Some 0)) v ≡ Some 0
  there_now v has = elim (cases_eq v source) [
    | inl same ↦ ap (at_node (set weights source (Some 0))) same ∙ here_now
    | inr other ↦ elim (Contains-push_cases sources source v has) [
      | inl old ↦ other_now v other ∙ begun.there v old
      | inr same ↦ absurd (other (sym same))
    ]
  ]

  waits_now : (v : ℕ) → Contains (sources ++ source ∷ []) v → Contains waiting (make_waiting 0 v)
  waits_now v has = elim (Contains-push_cases sources source v has) [
    | inl old ↦ waits_on 0 v (begun.waits v old)
    | inr same ↦ subst (λ u. Contains waiting (make_waiting 0 u)) same
        (Contains-permutation (make_waiting 0 source ∷ waited) waiting (make_waiting 0 source) pushed
        (first (make_waiting 0 source) waited))
  ]

  only_now : (w v : ℕ) → Contains waiting (make_waiting w v) → (w ≡ 0) × Contains (sources ++ source ∷ []) v
  only_now w v has = elim (one_waits w v has) [
    | inl is ↦ (
      sym (ap (λ (u : Waiting). u.0.0) is),
      subst (Contains (sources ++ source ∷ [])) (ap (λ (u : Waiting). u.0.1) is) (Contains-push sources source),
    )
    | inr old ↦ let y = begun.only w v old in (y.0, Contains-append_left sources (source ∷ []) v y.1)
  ]

  pub begun_more : HasBegun (sources ++ source ∷ []) (set weights source (Some 0)) waiting
  begun_more = record { zero = zero_now; there = there_now; waits = waits_now; only = only_now }

pub begun_none : {weights : List (Option ℕ)} → ((v w : ℕ) → at_node weights v ≡ Some w → ⊥)
    → HasBegun [] weights []
begun_none none = record {
  zero = λ v w here. absurd (none v w here);
  there = λ v has. absurd (omega (arith, has.1));
  waits = λ v has. absurd (omega (arith, has.1));
  only = λ w v has. absurd (omega (arith, has.1));
}

-- the sources wait, and no other node, among nodes that are all unsettled
pub record IsReady (network : Network) (inside : ℕ → Bool) (sources : List ℕ) (unsettled : List Bool)
    (weights : List (Option ℕ)) (waiting : List Waiting) : Type 0 where
  pub begun : HasBegun sources weights waiting
  pub nodes : length unsettled ≡ network.nodes
  pub count : length weights ≡ network.nodes
  pub inner : (v : ℕ) → among unsettled v ≡ true → inside v ≡ true
  pub waits : (v : ℕ) → inside v ≡ true → v < network.nodes → among unsettled v ≡ true
  pub are_inside : (v : ℕ) → Contains sources v → (inside v ≡ true) × (v < network.nodes)

module _ {network : Network} {inside : ℕ → Bool} {sources : List ℕ} {unsettled : List Bool}
    {weights : List (Option ℕ)} {waiting : List Waiting}
    (ready : IsReady network inside sources unsettled weights waiting) where
  begins_sound : (v w : ℕ) → at_node weights v ≡ Some w → IsReachedFrom network.edges inside sources v w
  begins_sound v w here =
      let y = ready.begun.zero v w here in
      record {
        source = v;
        is_source = y.1;
        walk = record { steps = []; walk = ((ready.are_inside v y.1).0, refl); sum = sym y.0 };
      }

  pub search_begins : (fits : ℕ → Type 0) → IsSearch network inside sources fits unsettled weights
  search_begins fits = record {
    nodes = ready.nodes;
    count = ready.count;
    start = λ v has. rw (ready.begun.there v has) (omega arith);
    inner = ready.inner;
    settled = λ v is_inside gone below. absurd (true_is_not_false (ready.waits v is_inside below) gone);
    sound = begins_sound;
    closed = λ u v w c gone here is_inside joined fit.
        let y = ready.are_inside u (ready.begun.zero u w here).1 in
        absurd (true_is_not_false (ready.waits u y.0 y.1) gone);
    lightest = λ u v x y gone here waits there. omega (arith, (ready.begun.zero u x here).0);
  }

  pub queue_begins : IsQueue unsettled weights waiting
  queue_begins = record {
    below = λ w v has. omega (arith, ready.nodes, (ready.are_inside v (ready.begun.only w v has).1).1);
    whole = λ v w still here.
        let y = ready.begun.zero v w here in
        subst (λ x. Contains waiting (make_waiting x v)) (sym y.0) (ready.begun.waits v y.1);
    light = λ w v has still. rw (ready.begun.there v (ready.begun.only w v has).1) (omega arith);
  }

-- settling a node
settled_now : (unsettled : List Bool) (x v : ℕ) → among (set unsettled x false) v ≡ false → (v ≡ x)
    ⊎ (among unsettled v ≡ false)
settled_now unsettled x v h = grind (arith, get_or-set_other)

unsettled_still : (unsettled : List Bool) (x v : ℕ) → x < length unsettled → among (set unsettled x false) v ≡ true
    → (v ≢ x) × (among unsettled v ≡ true)
unsettled_still unsettled x v below h =
    grind (arith, get_or-set_same unsettled x false false below, true_is_not_false, get_or-set_other)

count_falls : (unsettled : List Bool) (x : ℕ) → among unsettled x ≡ true
    → unsettled_count (set unsettled x false) + 1 ≡ unsettled_count unsettled
count_falls unsettled x waits =
    let f : Bool → ℕ = λ b. cond b 1 0 in
    let one : f (among unsettled x) ≡ 1 = ap f waits in
    let e : unsettled_count (set unsettled x false) + f (among unsettled x) ≡ unsettled_count unsettled + 0
    = sum_by-set f unsettled x false false (among_below unsettled x waits) in
    omega (arith, e, one)

count_positive : (unsettled : List Bool) (v : ℕ) → among unsettled v ≡ true → 1 ≤ unsettled_count unsettled
count_positive unsettled v waits = omega (arith, count_falls unsettled v waits)

module _ {network : Network} {inside : ℕ → Bool} {sources : List ℕ} {fits : ℕ → Type 0} {unsettled : List Bool}
    {weights : List (Option ℕ)} (so_far : IsSearch network inside sources fits unsettled weights) {best : Candidate}
    (lightest : IsLightest unsettled weights best) {arcs : List Arc}
    (of_node : AreArcsOf network.nodes network.edges best.node arcs) {radius : ℕ}
    (within : (c : ℕ) → c ≤ MAX_WEIGHT → fits (best.weight + c) → best.weight + c ≤ radius) {new : List (Option ℕ)}
    {waited waiting : List Waiting}
    (r : IsRelaxed arcs best.weight radius (set unsettled best.node false) weights new waited waiting) where
  is_arc : (v c : ℕ) → Contains arcs (make_arc v c) → IsArc network.nodes (make_arc v c)
  is_arc v c has = All-contains (IsArc network.nodes) arcs (make_arc v c) of_node.limits has

  closed_now : (u v w c : ℕ) → among (set unsettled best.node false) u ≡ false → at_node new u ≡ Some w
      → inside v ≡ true → Joins network.edges u v c → fits (w + c) → IsAtMost (at_node new v) (w + c)
  closed_now u v w c is_settled here inner joined fit =
      let before : at_node weights u ≡ Some w = sym (r.kept u is_settled) ∙ here in
      elim (settled_now unsettled best.node u is_settled) [
        | inr old ↦ r.falls v (w + c) (so_far.closed u v w c old before inner joined fit)
        | inl same ↦
            let w_is : best.weight ≡ w = same_Some best.weight w
            (sym lightest.weighs ∙ sym (ap (at_node weights) same) ∙ before) in
            let from : Joins network.edges best.node v c = rw same at joined in
            let arc = of_node.whole v c from in
            elim (cases_Bool (among (set unsettled best.node false) v)) [
              | inl waits ↦ rw (← w_is) (r.reached v c arc waits
                  (within c (is_arc v c arc).light (subst (λ x. fits (x + c)) (sym w_is) fit)))
              | inr gone ↦ rw (r.kept v gone) (elim (settled_now unsettled best.node v gone) [
                | inl itself ↦ rw (itself, lightest.weighs) (omega (arith, w_is))
                | inr old ↦
                    let y = so_far.settled v inner old (is_arc v c arc).below in
                    rw y.1 (omega (
                      arith,
                      w_is,
                      so_far.lightest v best.node y.0 best.weight old y.1 lightest.waits lightest.weighs,
                    ))
              ])
            ]
      ]

  lightest_now : (u v x y : ℕ) → among (set unsettled best.node false) u ≡ false → at_node new u ≡ Some x
      → among (set unsettled best.node false) v ≡ true → at_node new v ≡ Some y → x ≤ y
  lightest_now u v x y is_settled here waits there = grind (
    arith,
    among_below,
    r.kept u is_settled,
    unsettled_still unsettled best.node v (among_below unsettled best.node lightest.waits) waits,
    settled_now unsettled best.node u is_settled,
    so_far.lightest u best.node x best.weight,
    r.cause v y there,
  )

  sound_now : (v w : ℕ) → at_node new v ≡ Some w → IsReachedFrom network.edges inside sources v w
  sound_now v w here = elim (r.cause v w here) [
    | inl old ↦ so_far.sound v w old
    | inr through ↦
        let still = unsettled_still unsettled best.node v (among_below unsettled best.node lightest.waits)
        through.waits in
        let so = so_far.sound best.node best.weight lightest.weighs in
        record {
          source = so.source;
          is_source = so.is_source;
          walk = rw through.sum (walk_further network.edges inside so.source best.node v best.weight through.by
              so.walk (so_far.inner v still.1) (of_node.sound v through.by through.arc));
        }
  ]

  pub search_goes_on : IsSearch network inside sources fits (set unsettled best.node false) new
  search_goes_on = record {
    nodes = length-set unsettled best.node false ∙ so_far.nodes;
    count = r.count ∙ so_far.count;
    start = λ v has. r.falls v 0 (so_far.start v has);
    inner = λ v waits. so_far.inner v (unsettled_still unsettled best.node v
        (among_below unsettled best.node lightest.waits) waits).1;
    settled = λ v inner gone below. elim (settled_now unsettled best.node v gone) [
      | inl same ↦ (best.weight, r.kept v gone ∙ ap (at_node weights) same ∙ lightest.weighs)
      | inr old ↦ let y = so_far.settled v inner old below in (y.0, r.kept v gone ∙ y.1)
    ];
    sound = sound_now;
    closed = closed_now;
    lightest = lightest_now;
  }

  pub stays_bounded : IsBounded network unsettled weights → IsBounded network (set unsettled best.node false) new
  stays_bounded so =
      let fallen = count_falls unsettled best.node lightest.waits in
      record {
        slack = λ v w here.
            grind (arith, r.cause v w here, so.slack best.node best.weight lightest.weighs, is_arc);
        bounded = λ v w here. grind (
          arith,
          r.cause v w here,
          so.slack best.node best.weight lightest.weighs,
          count_positive,
          is_arc,
        );
      }

-- the queue's next is the lightest
module _ {unsettled : List Bool} {weights : List (Option ℕ)} {waiting rest : List Waiting}
    (queue : IsQueue unsettled weights waiting) {best : Candidate} (next : IsNextUnsettled unsettled waiting rest best)
  where
    pub next_is_lightest : IsLightest unsettled weights best
    next_is_lightest =
        let y = at_most_some (at_node weights best.node) best.weight
        (queue.light best.weight best.node next.there next.waits) in
        let same : y.0 ≡ best.weight = omega (
          arith,
          y.2,
          next.lightest y.0 best.node
              (queue.whole best.node y.0 next.waits y.1) next.waits,
        ) in
        record {
          waits = next.waits;
          weighs = y.1 ∙ ap Some same;
          lightest = λ v w v_waits here. next.lightest w v (queue.whole v w v_waits here) v_waits;
        }

    pub queue_goes_on : {arcs : List Arc} {radius : ℕ} {new : List (Option ℕ)} {after : List Waiting}
        → IsRelaxed arcs best.weight radius (set unsettled best.node false) weights new rest after
        → IsQueue (set unsettled best.node false) new after
    queue_goes_on r = record {
      below = λ w v has. elim (r.since w v has) [
        | inl before ↦ omega (arith, length-set unsettled best.node false, queue.below w v (next.fewer w v before))
        | inr now ↦ now.0
      ];
      whole = λ v w waits here.
          grind (arith, r.joined v w here, unsettled_still unsettled best.node v next.below waits);
      light = λ w v has waits. grind (arith, r.since w v has, unsettled_still unsettled best.node v next.below waits);
    }

-- the end, where no unsettled node has a weight
module _ {network : Network} {inside : ℕ → Bool} {sources : List ℕ} {fits : ℕ → Type 0}
    (less_fits : (x y : ℕ) → x ≤ y → fits y → fits x) {unsettled : List Bool} {weights : List (Option ℕ)}
    (so_far : IsSearch network inside sources fits unsettled weights) {waiting : List Waiting}
    (queue : IsQueue unsettled weights waiting) (none : AreSettled unsettled waiting) where
  pub weighed_is_settled : (u w : ℕ) → at_node weights u ≡ Some w → among unsettled u ≡ false
  weighed_is_settled u w here = elim (cases_Bool (among unsettled u)) [
    | inl waits ↦ absurd (none w u (queue.whole u w waits here) waits)
    | inr gone ↦ gone
  ]

  follows : (u : ℕ) (steps : List Step) (v w : ℕ) → at_node weights u ≡ Some w → IsWalk network.edges inside u steps v
      → fits (w + weight_of steps) → IsAtMost (at_node weights v) (w + weight_of steps)
  follows u [] v w here walk fit =
      subst (λ o. IsAtMost o (w + 0)) (sym here ∙ ap (at_node weights) walk.1) (omega arith)
  follows u (step ∷ steps) v w here walk fit =
      let inner : inside step.node ≡ true = walk_begins network.edges inside step.node steps v walk.2 in
      let y = at_most_some (at_node weights step.node) (w + step.weight)
      (so_far.closed u step.node w step.weight (weighed_is_settled u w here) here inner walk.1
      (less_fits (w + step.weight) (w + (step.weight + weight_of steps)) (omega arith) fit)) in
      at_most_trans (at_node weights v) (y.0 + weight_of steps) (w + (step.weight + weight_of steps))
      (follows step.node steps v y.0 y.1 walk.2
      (less_fits (y.0 + weight_of steps) (w + (step.weight + weight_of steps)) (omega (arith, y.2)) fit))
      (omega (arith, y.2))

  pub from_source : (source : ℕ) (steps : List Step) (v : ℕ) → Contains sources source
      → IsWalk network.edges inside source steps v → fits (weight_of steps)
      → IsAtMost (at_node weights v) (weight_of steps)
  from_source source steps v is_source walk fit =
      let y = at_most_some (at_node weights source) 0 (so_far.start source is_source) in
      at_most_trans (at_node weights v) (y.0 + weight_of steps) (weight_of steps)
      (follows source steps v y.0 y.1 walk
      (less_fits (y.0 + weight_of steps) (weight_of steps) (omega (arith, y.2)) fit))
      (omega (arith, y.2))
