-- The line that tells an outcome in sums: moves and what they weigh, finds that answer and finds
-- that have to be made again and what they all weigh, and visits. Switches count as visits alone.
-- Key laws: `summary` (it gives this line, byte for byte), `example_summaries` (computed).
use Rattle.std.specs.Prelude.{ℕ, Bool, true, false, not, List, ◌∷◌, [], count_by, length, codes}
use Rattle.std.specs.List.{sum_by}
use Rattle.directory.specs.CallLines.{by_find, is_answered}
use Rattle.directory.specs.Finds.{found_weight}
use Rattle.directory.specs.declared.answers.Done.{Done}
use Rattle.directory.specs.declared.answers.Done.TheVariants.{Moved}
use Rattle.directory.specs.Outcomes.{Outcome}
use Rattle.outside.specs.Texts.{◌then◌, field}

-- whether a call is a move
abbrev pub is_move : Done → Bool
is_move (Moved actor number from to weight first commit last) = true
is_move call = false

-- whether a call is a find that answers, with a subscriber that is on or off
abbrev pub is_answer : Done → Bool
is_answer call = by_find false (λ find. is_answered find.found) call

-- whether a call is a find that has to be made again
abbrev pub is_again : Done → Bool
is_again call = by_find false (λ find. not (is_answered find.found)) call

-- what a move weighs
abbrev pub weight_moved : Done → ℕ
weight_moved (Moved actor number from to weight first commit last) = weight
weight_moved call = 0

-- what a find weighs
abbrev pub weight_travelled : Done → ℕ
weight_travelled call = by_find 0 (λ find. found_weight find.found) call

-- the line of an outcome
abbrev pub summary_of : Outcome → List ℕ
summary_of outcome =
    codes "summary" then codes " moves" then field (count_by is_move outcome.calls)
    then codes " moved" then field (sum_by weight_moved outcome.calls)
    then codes " finds" then field (count_by is_answer outcome.calls)
    then codes " again" then field (count_by is_again outcome.calls)
    then codes " travelled" then field (sum_by weight_travelled outcome.calls)
    then codes " visits" then field (length outcome.order) then 10 ∷ []
