-- The text of a census: for each node at which some subscriber is, ascending, a line with their
-- count and their numbers; then `end` and the sum of the counts. Who is at a node is told by a
-- function, so that a text is the same whether it is told by cells, by the history that left them,
-- or by a list of where each subscriber is.
-- Key laws: `census`, by its clause `history` (the text is that of the directory's census), and
-- `census_of_places`.
use Rattle.std.specs.Prelude.{ℕ, zero, suc, ◌+◌, ◌==◌, Bool, false, List, [], ◌∷◌, length, codes, Option, Some, None, slice_index_or}
use Rattle.node_set.specs.Ascending.{sift}
use Rattle.outside.specs.Texts.{◌then◌, field, fields}

-- whether a place is this node; one that is nowhere isn't
abbrev pub is_place : ℕ → Option ℕ → Bool
is_place node None = false
is_place node (Some place) = place == node

-- the subscribers that are at a node, by where each of them is
abbrev pub who_at : List (Option ℕ) → ℕ → List ℕ
who_at places node = sift (λ sub. is_place node (slice_index_or places sub None)) 0 (length places)

-- the line of a node: none, where nobody is there
abbrev pub node_line : ℕ → List ℕ → List ℕ
node_line node [] = []
node_line node (sub ∷ subs) =
    codes "node" then field node then codes " count" then field (length (sub ∷ subs))
    then codes " subs" then fields (sub ∷ subs) then 10 ∷ []

-- the lines of the first nodes
abbrev pub node_lines : (ℕ → List ℕ) → ℕ → List ℕ
node_lines who zero = []
node_lines who (suc node) = node_lines who node then node_line node (who node)

-- how many are at the first nodes
abbrev pub count_below : (ℕ → List ℕ) → ℕ → ℕ
count_below who zero = 0
count_below who (suc node) = count_below who node + length (who node)

-- the text of a census of so many nodes
abbrev pub census_text_of : (ℕ → List ℕ) → ℕ → List ℕ
census_text_of who nodes =
    node_lines who nodes then codes "end" then field (count_below who nodes) then 10 ∷ []
