-- The rows of balls: for each node the centres of the balls that have it.
-- Key law: `coarsen_by_rows` gives the cover that `coarsen` gives, from the balls and their rows.
use Rattle.std.specs.Prelude.{◌≡◌, ℕ, ◌<◌, List, length}
use Rattle.node_set.specs.Ascending.{has}
use Rattle.node_set.specs.Balls.{ball}

-- the row of each node has the centres of the balls that have the node
abbrev pub AreTurned : List (List ℕ) → List (List ℕ) → Type 0
AreTurned balls rows = (u v : ℕ) → u < length balls → v < length balls → has u (ball rows v)
    ≡ has v (ball balls u)
