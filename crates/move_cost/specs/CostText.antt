-- The text of what moves cost: for each subscriber a line with its number, how many moves it makes,
-- how far it goes, the weight of all that it writes and how many marks it purges; then `end`.
-- Key law: `costs_text`, by its clause; `example_texts` computes rows.
use Rattle.std.specs.Prelude.{ℕ, List, [], ◌∷◌, codes, flat_map}
use Rattle.outside.specs.Texts.{◌then◌, field}
use Rattle.move_cost.specs.declared.line.CostLine.{CostLine}

-- the line of a subscriber
abbrev pub line_text : CostLine → List ℕ
line_text line =
    codes "cost" then field line.sub then codes " moves" then field line.moves
    then codes " moved" then field line.moved then codes " written" then field line.written
    then codes " purged" then field line.purged then 10 ∷ []

-- the text of all lines
abbrev pub costs_text_of : List CostLine → List ℕ
costs_text_of lines = flat_map line_text lines then codes "end" then 10 ∷ []
