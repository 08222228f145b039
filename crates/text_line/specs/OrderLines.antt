-- The lines of a list of actors, 64 on each and fewer on the last, as an input and a report have
-- them. Key laws: `write_next_order` (it writes the first of these lines), `pieces-cut` (the first
-- 64 numbers, and then the others), `example_orders` (computed).
use Rattle.std.specs.Prelude.{ℕ, zero, suc, List, [], ◌∷◌, map, length, take, drop, codes}
use Rattle.outside.specs.Texts.{◌then◌, fields}

-- the line of these actors
abbrev pub order_line : List ℕ → List ℕ
order_line actors = codes "order" then fields actors then 10 ∷ []

-- numbers cut into at most so many pieces of 64, fewer in the last
abbrev pub pieces_within : ℕ → List ℕ → List (List ℕ)
pieces_within zero numbers = []
pieces_within (suc most) [] = []
pieces_within (suc most) (n ∷ numbers) =
    take 64 (n ∷ numbers) ∷ pieces_within most (drop 64 (n ∷ numbers))

-- numbers cut into pieces of 64, fewer in the last
abbrev pub pieces : List ℕ → List (List ℕ)
pieces numbers = pieces_within (length numbers) numbers

-- the lines of the actors
abbrev pub order_lines : List ℕ → List (List ℕ)
order_lines actors = map order_line (pieces actors)

-- a zero so many times
abbrev pub zeros : ℕ → List ℕ
zeros zero = []
zeros (suc count) = 0 ∷ zeros count
