-- The least weights of walks in a network as lengths: they are there, they are a metric, a first step begins each, and
-- none is heavier than a walk through all nodes.
use Rattle.std.proofs.Common.{rules, ◌≡◌, ◌≢◌, ℕ, ◌+◌, ◌-◌, ◌*◌, ◌<◌, ◌≤◌, List, [], ◌∷◌, refl, arith}
use Rattle.net_graph.specs.declared.edge.Edge.{Edge}
use Rattle.net_graph.specs.declared.edge.TheConstants.{MAX_WEIGHT}
use Rattle.net_graph.specs.Walks.{IsReached, Joins, Step, IsWalk, weight_of, everywhere}
use Rattle.net_graph.specs.LeastWeights.{LeastWeightsAreBounded, LeastWeightsAreFound, least_weight}
use Rattle.net_graph.specs.Network.{Network, IsNetwork}
use Rattle.net_graph.specs.WalkLaws.{join_edge, walk_turned, walk-append, least_weight_one, least_weight_back, triangle, least_positive}
use Rattle.distances.specs.NodesLeftOut.{AreLeast, AreLengths}

-- ---- the lengths are there

module _ (found : LeastWeightsAreFound) (network : Network) (sound : IsNetwork network) where
  reached : (u v : ℕ) → u < network.nodes → v < network.nodes → IsReached network.edges everywhere u v
  reached u v u_below v_below =
      grind (arith, walk_turned, walk-append, sound.connected u u_below, sound.connected v v_below)

  pub least_there : AreLeast network (least_weight network everywhere)
  least_there u v u_below v_below = found network everywhere u v sound.limits (reached u v u_below v_below)

-- ---- lengths

-- the first step of a walk from a to b
pub record Begins (edges : List Edge) (n : ℕ) (d : ℕ → ℕ → ℕ) (a b : ℕ) : Type 0 where
  pub next : ℕ
  pub weight : ℕ
  pub joined : Joins edges a next weight
  pub below : next < n
  pub other : next ≢ a
  pub short : weight + d next b ≤ d a b

module _ (network : Network) (sound : IsNetwork network) (d : ℕ → ℕ → ℕ) (least : AreLeast network d) where
  begins_with : (a b : ℕ) → a < network.nodes → b < network.nodes → a ≢ b → (steps : List Step)
      → IsWalk network.edges everywhere a steps b
      → weight_of steps ≤ d a b → Begins network.edges network.nodes d a b
  begins_with a b a_below b_below apart [] walk light = absurd (apart walk.1)
  begins_with a b a_below b_below apart (step ∷ steps) walk light = search (rules, join_edge)

  pub begins : (a b : ℕ) → a < network.nodes → b < network.nodes → a ≢ b → Begins network.edges network.nodes d a b
  begins a b a_below b_below apart =
      let w = (least a b a_below b_below).attained in
      begins_with a b a_below b_below apart w.steps w.walk (omega (arith, w.sum))

  pub zero_length : (u : ℕ) → u < network.nodes → d u u ≡ 0
  zero_length u below = omega (arith, (least u u below below).least [] (refl, refl))

  pub positive_length : (u v : ℕ) → u < network.nodes → v < network.nodes → u ≢ v → 1 ≤ d u v
  positive_length u v u_below v_below apart =
      least_positive network.nodes network.edges everywhere u v (d u v) sound.limits.edges apart
      (least u v u_below v_below)

  pub turned_length : (u v : ℕ) → u < network.nodes → v < network.nodes → d u v ≡ d v u
  turned_length u v u_below v_below = least_weight_one network.edges everywhere u v (d u v) (d v u)
      (least u v u_below v_below)
      (least_weight_back network.edges everywhere v u (d v u) (least v u v_below u_below))

  pub triangle_length : (u v x : ℕ) → u < network.nodes → v < network.nodes → x < network.nodes → d u x ≤ d u v + d v x
  triangle_length u v x u_below v_below x_below = triangle network.edges everywhere u v x (d u v) (d v x) (d u x)
      (least u v u_below v_below) (least v x v_below x_below) (least u x u_below x_below)

  pub step_length : (u v w : ℕ) → u < network.nodes → v < network.nodes → Joins network.edges u v w → d u v ≤ w
  step_length u v w u_below v_below joined =
      omega (
        arith,
        (least u v u_below v_below).least (record { node = v; weight = w } ∷ [])
            (refl, joined, (refl, refl)),
      )

  module _ (bounds : LeastWeightsAreBounded) where
    pub bounded : (a b : ℕ) → a < network.nodes → b < network.nodes → d a b ≤ (network.nodes - 1) * MAX_WEIGHT
    bounded a b a_below b_below =
        bounds network.nodes network.edges everywhere a b (d a b) sound.limits.edges (least a b a_below b_below)

    pub lengths : AreLengths network.nodes d
    lengths = search (rules, zero_length, positive_length, turned_length, triangle, triangle_length, bounded)
