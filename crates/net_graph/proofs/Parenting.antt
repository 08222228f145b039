-- The least neighbours that make up the weights are the parents of a tree of least walks.
use Rattle.std.proofs.Common.{◌≡◌, ◌≢◌, ◌⊎◌, ℕ, ◌+◌, ◌<◌, ◌≤◌, Bool, true, List, [], ◌∷◌, ◌++◌, Option, None, Some, length, get_or, take, refl, sym, ◌∙◌, ap, subst, inl, inr, arith}
use Rattle.std.specs.Prelude.{Contains}
use Rattle.std.proofs.lemmas.List.{take_more, length_push, get_or_append_left, get_or_push}
use Rattle.std.proofs.lemmas.List.Elements.{Contains-append_left, Contains-push, Contains-push_cases}
use Rattle.std.proofs.lemmas.Bool.{cases_lt}
use Rattle.net_graph.specs.declared.edge.Edge.{Edge}
use Rattle.net_graph.specs.declared.neighbours.Arc.{Arc}
use Rattle.net_graph.specs.Walks.{Joins, Step, IsWalk, weight_of}
use Rattle.net_graph.specs.Network.{Network, IsInLimits}
use Rattle.net_graph.specs.Trees.{at_node, AreLeastWeights, IsParent, AreParents}
use Rattle.net_graph.specs.Layout.{make_arc, AreArcsOf}
use Rattle.net_graph.specs.Least.{IsAtMost, lesser_of}
use Rattle.net_graph.specs.Parents.{MakesUp, IsLeastTarget, IsLeastNeighbour, AreLeastNeighbours}
use Rattle.net_graph.specs.WalkLaws.{join_turned, join_edge, walk_begins, walk_ends, walk_further}
use Rattle.net_graph.proofs.Lowering.{lowered_light, lowered_keeps, lowered_cause}

pub target_taken : (arcs : List Arc) (i : ℕ) (d : Arc) {weights : List (Option ℕ)} {weight least next : Option ℕ}
    → i < length arcs → MakesUp weights (get_or arcs i d).target (get_or arcs i d).weight weight
    → next ≡ lesser_of least (get_or arcs i d).target → IsLeastTarget (take i arcs) weights weight least
    → IsLeastTarget (take (i + 1) arcs) weights weight next
target_taken arcs i d {weights} {weight} {least} below makes is so_far =
    let arc : Arc = get_or arcs i d in
    rw (take_more arcs i d below, is) (record {
      cause = λ p some. elim (lowered_cause least arc.target some) [
        | inl old ↦ let r = so_far.cause p old in
            (r.0, Contains-append_left (take i arcs) (arc ∷ []) (make_arc p r.0) r.1, r.2)
        | inr new ↦ (
          arc.weight,
          subst (λ t. Contains (take i arcs ++ arc ∷ []) (make_arc t arc.weight)) new (Contains-push (take i arcs) arc),
          subst (λ t. MakesUp weights t arc.weight weight) new makes,
        )
      ];
      whole = λ q c has fits. elim (Contains-push_cases (take i arcs) arc (make_arc q c) has) [
        | inl old ↦ lowered_keeps least arc.target q (so_far.whole q c old fits)
        | inr new ↦ subst (λ (a : Arc). IsAtMost (lesser_of least arc.target) a.target) new
            (lowered_light least arc.target)
      ];
    })

pub target_left : (arcs : List Arc) (i : ℕ) (d : Arc) {weights : List (Option ℕ)} {weight least : Option ℕ}
    → i < length arcs → (MakesUp weights (get_or arcs i d).target (get_or arcs i d).weight weight → ⊥)
    → IsLeastTarget (take i arcs) weights weight least → IsLeastTarget (take (i + 1) arcs) weights weight least
target_left arcs i d {weights} {weight} below fails so_far =
    let arc : Arc = get_or arcs i d in
    rw (take_more arcs i d below) (record {
      cause = λ p some. let r = so_far.cause p some in
          (r.0, Contains-append_left (take i arcs) (arc ∷ []) (make_arc p r.0) r.1, r.2);
      whole = λ q c has fits. elim (Contains-push_cases (take i arcs) arc (make_arc q c) has) [
        | inl old ↦ so_far.whole q c old fits
        | inr new ↦ absurd (fails (subst (λ (a : Arc). MakesUp weights a.target a.weight weight) (sym new) fits))
      ];
    })

neighbour : {n : ℕ} {edges : List Edge} {v : ℕ} {arcs : List Arc} {weights : List (Option ℕ)} {least : Option ℕ}
    → AreArcsOf n edges v arcs → IsLeastTarget arcs weights (at_node weights v) least
    → IsLeastNeighbour edges weights v least
neighbour of_node found = record {
  cause = λ p some. let r = found.cause p some in (r.0, of_node.sound p r.0 r.1, r.2);
  whole = λ q c joined makes. found.whole q c (of_node.whole q c joined) makes;
}

pub more_neighbours : {n : ℕ} {edges : List Edge} {v : ℕ} {arcs : List Arc} {weights parents next : List (Option ℕ)}
    {least : Option ℕ} → AreArcsOf n edges v arcs → IsLeastTarget arcs weights (at_node weights v) least
    → AreLeastNeighbours edges weights v parents → next ≡ parents ++ least ∷ []
    → AreLeastNeighbours edges weights (v + 1) next
more_neighbours {edges} {v} {weights} {parents} {least} of_node found so_far is =
    rw is (record {
      count = omega (arith, length_push parents least, so_far.count);
      each = λ u below. elim (cases_lt u v) [
        | inl less ↦ rw (get_or_append_left parents (least ∷ []) None u (omega (arith, so_far.count)))
            (so_far.each u less)
        | inr more ↦ let same : u ≡ v = omega arith in
            rw (same, get_or_push parents least None v so_far.count) (neighbour of_node found)
      ];
    })

-- a walk and its last step
pub record EndsWith (edges : List Edge) (inside : ℕ → Bool) (u v w : ℕ) : Type 0 where
  pub node : ℕ
  pub edge : ℕ
  pub front : List Step
  pub walk : IsWalk edges inside u front node
  pub joined : Joins edges node v edge
  pub light : weight_of front + edge ≤ w

last_step : (edges : List Edge) (inside : ℕ → Bool) (u : ℕ) (steps : List Step) (v : ℕ) → IsWalk edges inside u steps v
    → (u ≡ v) ⊎ EndsWith edges inside u v (weight_of steps)
last_step edges inside u [] v walk = inl walk.1
last_step edges inside u (step ∷ steps) v walk = inr (elim (last_step edges inside step.node steps v walk.2) [
  | inl at_end ↦ record {
    node = u;
    edge = step.weight;
    front = [];
    walk = (walk.0, refl);
    joined = subst (λ x. Joins edges u x step.weight) at_end walk.1;
    light = omega arith;
  }
  | inr ends ↦ record {
    node = ends.node;
    edge = ends.edge;
    front = step ∷ ends.front;
    walk = (walk.0, walk.1, ends.walk);
    joined = ends.joined;
    light = omega (arith, ends.light);
  }
])

option_cases : (c : Option ℕ) → (c ≡ None) ⊎ ((w : ℕ) × (c ≡ Some w))
option_cases None = inl refl
option_cases (Some w) = inr (w, refl)

module _ (network : Network) (limits : IsInLimits network) (inside : ℕ → Bool) (root : ℕ)
    (weights parents : List (Option ℕ)) (least : AreLeastWeights network inside root weights)
    (found : AreLeastNeighbours network.edges weights network.nodes parents) where
  -- a node's weight is at most that of a neighbour and the edge between them
  no_more : (p v b w c : ℕ) → p < network.nodes → v < network.nodes → at_node weights p ≡ Some b
      → at_node weights v ≡ Some w
      → Joins network.edges p v c → w ≤ b + c
  no_more p v b w c p_below v_below at_p at_v joined =
      let there = (least.least p b p_below at_p).attained in
      let here = least.least v w v_below at_v in
      let inner : inside v ≡ true = walk_ends network.edges inside root here.attained.steps v here.attained.walk in
      let further = walk_further network.edges inside root p v b c there inner joined in
      omega (arith, here.least further.steps further.walk, further.sum)

  some_parent : (v p : ℕ) → v < network.nodes → at_node parents v ≡ Some p
      → (v ≢ root) × (p < network.nodes) × IsParent network.edges weights v p
  some_parent v p v_below some =
      let r = (found.each v v_below).cause p some in
      let edge = join_edge network.nodes network.edges v p r.0 limits.edges r.1 in
      let w = least.least v (r.2.before + r.0) v_below r.2.sum in (
        (λ same. let begins : inside root ≡ true =
            walk_begins network.edges inside root w.attained.steps v w.attained.walk in
            omega (arith, edge.2.positive, w.least [] (begins, sym same))),
        edge.1,
        record {
          leads = record {
            before = r.2.before;
            edge = r.0;
            comes_from = r.2.comes_from;
            sum = r.2.sum;
            joined = record {
              joined = join_turned network.edges v p r.0 r.1;
              least = λ x joined. omega (
                arith,
                no_more p v r.2.before
                    (r.2.before + r.0) x edge.1 v_below r.2.comes_from r.2.sum joined,
              );
            };
          };
          first = λ q less leads. omega (
            arith,
            subst (λ o. IsAtMost o q) some
                ((found.each v v_below).whole q leads.edge
                (join_turned network.edges q v leads.edge leads.joined.joined)
                (record { before = leads.before; comes_from = leads.comes_from; sum = leads.sum })),
          );
        },
      )

  no_parent : (v w : ℕ) → v < network.nodes → at_node parents v ≡ None → at_node weights v ≡ Some w → v ≡ root
  no_parent v w v_below none here =
      let walk = (least.least v w v_below here).attained in
      elim (last_step network.edges inside root walk.steps v walk.walk) [
        | inl same ↦ sym same
        | inr ends ↦ absurd (
            let p_below : ends.node < network.nodes =
            (join_edge network.nodes network.edges ends.node v ends.edge limits.edges ends.joined).0 in
            elim (option_cases (at_node weights ends.node)) [
              | inl missing ↦ least.unreached ends.node p_below missing ends.front ends.walk
              | inr there ↦
                  let light : there.0 ≤ weight_of ends.front =
                  (least.least ends.node there.0 p_below there.1).least ends.front ends.walk in
                  let close : w ≤ there.0 + ends.edge =
                  no_more ends.node v there.0 w ends.edge p_below v_below there.1 here ends.joined in
                  let exact : w ≡ there.0 + ends.edge = omega (arith, light, close, ends.light, walk.sum) in
                  subst (λ o. IsAtMost o ends.node) none
                  ((found.each v v_below).whole ends.node ends.edge
                  (join_turned network.edges ends.node v ends.edge ends.joined)
                  (record { before = there.0; comes_from = there.1; sum = here ∙ ap Some exact }))
            ])
      ]

  pub are_parents : AreParents network root weights parents
  are_parents = record { count = found.count; some = some_parent; none = no_parent }
