-- The rows of balls, from the centres that each has.
use Rattle.std.proofs.Common.{◌≡◌, ℕ, ◌+◌, ◌<◌, List, [], ◌∷◌, ◌++◌, length, arith}
use Rattle.std.proofs.lemmas.Bool.{cases_lt}
use Rattle.std.proofs.lemmas.List.{get_or_append_left, get_or_push, map-append}
use Rattle.node_set.specs.Ascending.{has, sift}
use Rattle.node_set.specs.Balls.{ball, sets}
use Rattle.node_set.specs.BallLaws.{length-sets}
use Rattle.node_set.specs.Nodes.{Nodes}
use Rattle.node_set.specs.SetLaws.{has-passing}
use Rattle.node_set.specs.Turned.{AreTurned}

pub rows_turned : (balls rows : List Nodes) → length rows ≡ length balls
    → ((v : ℕ) → v < length balls → ball (sets rows) v ≡ sift (λ u. has v (ball (sets balls) u)) 0 (length balls))
    → AreTurned (sets balls) (sets rows)
rows_turned balls rows count each u v u_below v_below =
    grind (arith, length-sets, has-passing)

-- one row more
pub row_more : (rows : List Nodes) (row : Nodes) (wanted : ℕ → List ℕ)
    → ((v : ℕ) → v < length rows → ball (sets rows) v ≡ wanted v) → row.members ≡ wanted (length rows)
    → (v : ℕ) → v < length rows + 1 → ball (sets (rows ++ row ∷ [])) v ≡ wanted v
row_more rows row wanted each is v below =
    grind (arith, map-append, cases_lt, get_or_append_left, length-sets, get_or_push)
