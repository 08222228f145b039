-- Nodes that wait to be settled, each with the weight at which it was reached, the lightest first.
-- Key law: `next_unsettled` takes the lightest that waits and isn't settled (`IsNextUnsettled`).
use Rattle.std.specs.Prelude.{◌≡◌, ◌≢◌, ℕ, ◌<◌, ◌≤◌, Bool, true, List, Contains, length}
use Rattle.std.specs.Ordering.{nat_cmp, ordering_then}
use Rattle.std.specs.declared.cmp.Ordering.{Ordering}
use Rattle.std.specs.declared.cmp.Reverse.{Reverse}
use Rattle.net_graph.specs.declared.queue.Candidate.{Candidate}
use Rattle.net_graph.specs.Walks.{among}

-- a weight, and the node that was reached at it
abbrev pub Waiting : Type 0
Waiting = Reverse (ℕ × ℕ)

-- a node that waits at this weight
abbrev pub make_waiting : ℕ → ℕ → Waiting
make_waiting weight node = record { 0 = (weight, node) }

-- the greater of two is the lighter one, and of two of one weight the one of the lesser node
abbrev pub lighter_first : Waiting → Waiting → Ordering
lighter_first x y = ordering_then (nat_cmp y.0.0 x.0.0) (nat_cmp y.0.1 x.0.1)

-- none of those that wait is unsettled
abbrev pub AreSettled : List Bool → List Waiting → Type 0
AreSettled unsettled waiting = (w v : ℕ) → Contains waiting (make_waiting w v)
    → among unsettled v ≡ true → ⊥

-- the best is the lightest unsettled one of those that waited; the other unsettled ones wait still,
-- and no new ones
pub record IsNextUnsettled (unsettled : List Bool) (old new : List Waiting) (best : Candidate) :
    Type 0 where
  pub below : best.node < length unsettled
  pub waits : among unsettled best.node ≡ true
  pub there : Contains old (make_waiting best.weight best.node)
  pub lightest : (w v : ℕ) → Contains old (make_waiting w v) → among unsettled v ≡ true
      → best.weight ≤ w
  pub kept : (w v : ℕ) → Contains old (make_waiting w v) → among unsettled v ≡ true → v ≢ best.node
      → Contains new (make_waiting w v)
  pub fewer : (w v : ℕ) → Contains new (make_waiting w v) → Contains old (make_waiting w v)
