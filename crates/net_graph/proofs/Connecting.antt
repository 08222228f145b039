-- From the weights of a search from node 0 to a connected network, or the first node that is apart.
use Rattle.std.proofs.Common.{rules, ◌≡◌, ℕ, ◌<◌, Bool, true, List, Option, None, Some, length, replicate, refl, sym, subst, arith}
use Rattle.std.specs.Prelude.{All}
use Rattle.std.proofs.lemmas.List.{length-replicate}
use Rattle.std.proofs.lemmas.List.Elements.{All-replicate}
use Rattle.net_graph.specs.declared.edge.Edge.{Edge}
use Rattle.net_graph.specs.Walks.{IsReached, everywhere, among}
use Rattle.net_graph.specs.Network.{Network, IsInLimits, IsNetwork, SameJoins, SameWalks, IsGraphOf, IsFirstApart}
use Rattle.net_graph.specs.Trees.{at_node, AreLeastWeights}
use Rattle.net_graph.specs.WalkLaws.{walk_widened, unreached_everywhere}

some_weight : (c : Option ℕ) → (c ≡ None → ⊥) → (w : ℕ) × (c ≡ Some w)
some_weight None not = absurd (not refl)
some_weight (Some w) not = (w, refl)

module _ {n : ℕ} (edges : List Edge) {network : Network} (nodes : network.nodes ≡ n) (limits : IsInLimits network)
    (same : SameWalks edges network.edges) {allowed : List Bool} (all : allowed ≡ replicate n true)
    {weights : List (Option ℕ)} (least : AreLeastWeights network (among allowed) 0 weights) where
  count : length allowed ≡ network.nodes
  count = subst (λ xs. length xs ≡ network.nodes) (sym all) (omega (arith, length-replicate n true, nodes))

  all_true : All (λ x. x ≡ true) allowed
  all_true = subst (λ xs. All (λ x. x ≡ true) xs) (sym all) (All-replicate (λ x. x ≡ true) n true refl)

  reached_in : (v : ℕ) → v < network.nodes → (at_node weights v ≡ None → ⊥) → IsReached network.edges everywhere 0 v
  reached_in v below weighed =
      let w = some_weight (at_node weights v) weighed in
      let walk = (least.least v w.0 below w.1).attained in
      record {
        steps = walk.steps;
        walk = walk_widened network.nodes network.edges (among allowed) everywhere limits.edges
            (λ x b h. refl) 0 walk.steps v (omega (arith, limits.positive)) walk.walk;
      }

  pub connected : ((v : ℕ) → v < length weights → at_node weights v ≡ None → ⊥) → IsNetwork network
  connected none = search (rules, reached_in)

  pub made : SameJoins edges network.edges → ((v : ℕ) → v < length weights → at_node weights v ≡ None → ⊥)
      → IsGraphOf n edges network
  made joins none = record { nodes = nodes; joins = joins; same = same; sound = connected none }

  pub first_is_apart : (node : ℕ) → node < n → at_node weights node ≡ None
      → ((v : ℕ) → v < node → at_node weights v ≡ None → ⊥)
      → IsFirstApart n edges node
  first_is_apart node below here first = record {
    below = below;
    apart = (same.unreached everywhere 0 node).1
        ((unreached_everywhere network.nodes network.edges allowed 0 node limits.edges count all_true
        (omega (arith, limits.positive))).0
        (least.unreached node (omega (arith, nodes)) here));
    first = λ v less. (same.reached everywhere 0 v).1 (reached_in v (omega (arith, nodes)) (first v less));
  }
