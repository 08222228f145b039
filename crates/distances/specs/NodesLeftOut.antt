-- All distances by leaving out one node after another, as the private functions do; callers stand
-- on `Table` alone, and proofs/ joins the two. `c` are the weights in a table, `d` the lengths of
-- least walks, and `left` says which nodes are left.
-- Key laws: `leave_out_all` leaves out all nodes of a first table (`AreAllLeftOut`), and
-- `take_back_all` fills the table with the lengths that those near to each tell (`IsFilled`); both
-- together are `eliminate` (`IsEliminated`).
use Rattle.std.specs.Prelude.{◌≡◌, ◌≢◌, ◌⊎◌, ℕ, ◌+◌, ◌*◌, ◌<◌, ◌≤◌, List, [], ◌∷◌, ◌++◌, All, Contains, length, replicate, slice_set}
use Rattle.distances.specs.declared.near_nodes.Near.{Near}
use Rattle.distances.specs.declared.elimination.LeftOut.{LeftOut}
use Rattle.distances.specs.declared.weights.TheConstants.{FAR}
use Rattle.net_graph.specs.Walks.{IsLeastWeight, Joins, everywhere}
use Rattle.net_graph.specs.Network.{Network}
use Rattle.distances.specs.Lowering.{Among, IsLowered, IsNodeWritten, IsWithin, RowOffer, cell_at}

-- d are the least weights of walks between the nodes of the network
abbrev pub AreLeast : Network → (ℕ → ℕ → ℕ) → Type 0
AreLeast network d = (u v : ℕ) → u < network.nodes → v < network.nodes
    → IsLeastWeight network.edges everywhere u v (d u v)

-- lengths between the nodes below n
pub record AreLengths (n : ℕ) (d : ℕ → ℕ → ℕ) : Type 0 where
  pub zero : (u : ℕ) → u < n → d u u ≡ 0
  pub positive : (u v : ℕ) → u < n → v < n → u ≢ v → 1 ≤ d u v
  pub turned : (u v : ℕ) → u < n → v < n → d u v ≡ d v u
  pub triangle : (u v x : ℕ) → u < n → v < n → x < n → d u x ≤ d u v + d v x
  pub light : (u v : ℕ) → u < n → v < n → d u v < FAR

-- from a on the way to b, a node that is left comes next
pub record GoesOn (left : ℕ → Type 0) (c d : ℕ → ℕ → ℕ) (a b : ℕ) : Type 0 where
  pub next : ℕ
  pub is_left : left next
  pub other : next ≢ a
  pub short : c a next + d next b ≤ d a b

-- the weights between the nodes that are left make up the lengths between them
pub record KeepsLengths (left : ℕ → Type 0) (c d : ℕ → ℕ → ℕ) : Type 0 where
  pub sound : (a b : ℕ) → left a → left b → d a b ≤ c a b
  pub turned : (a b : ℕ) → left a → left b → c a b ≡ c b a
  pub goes_on : (a b : ℕ) → left a → left b → a ≢ b → GoesOn left c d a b

-- a node that is near at this weight
abbrev pub make_near : ℕ → ℕ → Near
make_near x w = record { node = x; weight = w }

-- a near node is on a least walk to b
pub record LeadsOn (d : ℕ → ℕ → ℕ) (near : List Near) (v b : ℕ) : Type 0 where
  pub node : ℕ
  pub weight : ℕ
  pub is_near : Contains near (make_near node weight)
  pub short : weight + d node b ≤ d v b

-- the nodes near v when it was left out make up the lengths from v to the nodes that were left then
pub record IsLeftOut (left : ℕ → Type 0) (d : ℕ → ℕ → ℕ) (v : ℕ) (near : List Near) : Type 0 where
  pub sound : (x w : ℕ) → Contains near (make_near x w) → left x × (d v x ≤ w) × (w < FAR)
  pub leads_on : (b : ℕ) → left b → LeadsOn d near v b

-- it and the nodes near it are nodes below n, and their weights are no more than FAR
pub record IsLeftOutWithin (n : ℕ) (one : LeftOut) : Type 0 where
  pub node : one.node < n
  pub near : All (IsWithin n) one.near.items

-- a node that wasn't left out
abbrev pub IsFresh : ℕ → List LeftOut → ℕ → Type 0
IsFresh n left_out x = (x < n) × All (λ (s : LeftOut). s.node ≢ x) left_out

-- each was left out of the nodes that were left after it
pub data AreLeftOut (n : ℕ) (d : ℕ → ℕ → ℕ) : List LeftOut → Type 0 where
  none : AreLeftOut n d []
  more : (earlier : List LeftOut) (last : LeftOut) (left_out : List LeftOut)
      → left_out ≡ earlier ++ last ∷ [] → AreLeftOut n d earlier
      → IsLeftOut (IsFresh n left_out) d last.node last.near.items → AreLeftOut n d left_out

-- all nodes were left out of a table, in this order
pub record AreAllLeftOut (n width : ℕ) (first : List ℕ) (left_out : List LeftOut) : Type 0 where
  pub within : All (IsLeftOutWithin n) left_out
  pub all : (x : ℕ) → IsFresh n left_out x → ⊥
  pub holds : (d : ℕ → ℕ → ℕ) → AreLengths n d → KeepsLengths (λ x. x < n) (cell_at width first) d
      → AreLeftOut n d left_out

-- the table has the lengths that the nodes left out tell
pub record IsFilled (n width : ℕ) (left_out : List LeftOut) (table : List ℕ) : Type 0 where
  pub count : length table ≡ n * width
  pub each : (d : ℕ → ℕ → ℕ) → AreLengths n d → AreLeftOut n d left_out
      → ((x : ℕ) → IsFresh n left_out x → ⊥)
      → (a b : ℕ) → a < n → b < n → cell_at width table a b ≡ d a b

-- a node is taken back: its row and column have the least weights through the nodes near it, and
-- none to itself
pub record IsTakenBack (n width : ℕ) (one : LeftOut) (back mine old new : List ℕ) : Type 0 where
  pub folded : List ℕ
  pub lowered : IsLowered (Among one.near.items (RowOffer n width old)) (replicate n FAR) folded
  pub zeroed : mine ≡ slice_set folded one.node 0
  pub written : IsNodeWritten n width one.node back mine old new

-- the table has the lengths that a first table's weights make up
pub record IsEliminated (n width : ℕ) (first table : List ℕ) : Type 0 where
  pub count : length table ≡ n * width
  pub each : (d : ℕ → ℕ → ℕ) → AreLengths n d
      → KeepsLengths (λ x. x < n) (cell_at width first) d
      → (a b : ℕ) → a < n → b < n → cell_at width table a b ≡ d a b

-- the table has the least weights of edges, FAR where there is none
pub record IsFirstTable (network : Network) (width : ℕ) (table : List ℕ) : Type 0 where
  pub count : length table ≡ network.nodes * width
  pub light : All (λ w. w ≤ FAR) table
  pub sound : (u v : ℕ) → u < network.nodes → v < network.nodes
      → (cell_at width table u v ≡ FAR)
      ⊎ Joins network.edges u v (cell_at width table u v)
  pub whole : (u v w : ℕ) → u < network.nodes → v < network.nodes → Joins network.edges u v w
      → cell_at width table u v ≤ w
