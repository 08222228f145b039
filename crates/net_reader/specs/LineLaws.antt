-- Short laws of lines and of the limits of formats, for the proofs of the crates above:
-- `without_return-behind` (a return after a line is no part of it), `most_nodes-within` (each
-- format's limit of nodes is within that of networks).
use Rattle.std.proofs.Common.{◌≡◌, ℕ, ◌≤◌, ◌==◌, Bool, true, false, List, [], ◌∷◌, ◌++◌, refl, ap, arith}
use Rattle.std.specs.Prelude.{if◌then◌else◌}
use Rattle.net_graph.specs.declared.edge.TheConstants.{MAX_NODES}
use Rattle.net_reader.specs.Table.{most_nodes}
use Rattle.net_reader.specs.TextLines.{without_return}

-- a return after a line is no part of it
pub without_return-behind : (front : List ℕ) → without_return (front ++ 13 ∷ []) ≡ front
without_return-behind [] = refl
without_return-behind (a ∷ []) = refl
without_return-behind (a ∷ b ∷ front) = ap (λ t. a ∷ t) (without_return-behind (b ∷ front))

-- each format's limit of nodes is within that of networks
pub most_nodes-within : (format : ℕ) → most_nodes format ≤ MAX_NODES
most_nodes-within format = at (format == 2)
  where
    at : (second : Bool) → (if second then 1024 else 256) ≤ MAX_NODES
    at true = omega arith
    at false = omega arith
