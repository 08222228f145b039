-- How the lines of a report are read from the front of its text, step by step: words just as they
-- stand, and numbers without leading zeros. The calls of a report are those of the input's slots,
-- in their order; then come the lines of the order, of which a line that isn't full is the last,
-- and the number of visits, behind which nothing stands. Key laws: `words_are_text`,
-- `numbers_are_text` and `calls_are_text` (what is read is the text that report_text writes of it).
use Rattle.std.specs.Prelude.{ℕ, suc, zero, ◌+◌, ◌-◌, ◌*◌, ◌/◌, ◌%◌, ◌^◌, ◌==◌, Bool, true, false, nat_lt, if◌then◌else◌, List, [], ◌∷◌, ◌++◌, length, Option, Some, None, Result, Ok, Err, codes}
use Rattle.std.specs.Char.{is_ascii_digit}
use Rattle.outside.specs.Texts.{fields}
use Rattle.directory.specs.declared.answers.Done.{Done}
use Rattle.directory.specs.declared.answers.Done.TheVariants.{Moved, Switched, Found, Off, Again}
use Rattle.directory.specs.declared.answers.Why.{Why}
use Rattle.directory.specs.declared.answers.Why.TheVariants.{Empty, NoEntry, Chased}
use Rattle.directory.specs.Outcomes.{Outcome}
use Rattle.report_text.specs.ReportText.{switch_field}
use Rattle.report_check.specs.declared.slots.Slot.{Slot}
use Rattle.report_check.specs.declared.slots.Slot.TheVariants.{Move, Switch, Find}
use Rattle.report_check.specs.declared.calls.Bounds.{Bounds}
use Rattle.report_check.specs.declared.calls.Place.{Place}
use Rattle.report_check.specs.declared.calls.Visits.{Visits}

-- the rest goes on where there is a value
infixl 10 ◌>>=◌
abbrev pub ◌>>=◌ : {A B : Type 0} → Option A → (A → Option B) → Option B
None >>= f = None
(Some x) >>= f = f x

-- numbers are below this limit, unless they name what there is fewer of
abbrev pub most : ℕ
most = 2 ^ 63

-- what stands behind these bytes
unfoldable pub word_in : List ℕ → List ℕ → Option (List ℕ)
word_in [] text = Some text
word_in (w ∷ ws) [] = None
word_in (w ∷ ws) (b ∷ text) = if w == b then word_in ws text else None

-- whether a digit comes next
abbrev pub starts_with_digit : List ℕ → Bool
starts_with_digit [] = false
starts_with_digit (b ∷ text) = is_ascii_digit b

-- digits that go on with a number that stays below a limit
unfoldable pub digits_from : ℕ → ℕ → List ℕ → Option (ℕ × List ℕ)
digits_from limit value [] = Some (value, [])
digits_from limit value (b ∷ text) =
    if is_ascii_digit b
    then (if nat_lt (10 * value + (b - 48)) limit
    then digits_from limit (10 * value + (b - 48)) text else None)
    else Some (value, b ∷ text)

-- a number without leading zeros, below a limit
abbrev pub digits_of : ℕ → List ℕ → Option (ℕ × List ℕ)
digits_of limit [] = None
digits_of limit (b ∷ text) =
    if b == 48 then (if starts_with_digit text then None else Some (0, text))
    else (if is_ascii_digit b then digits_from limit 0 (b ∷ text) else None)

-- the same, where some number is below the limit
abbrev pub digits_in : ℕ → List ℕ → Option (ℕ × List ℕ)
digits_in limit text = if nat_lt 0 limit then digits_of limit text else None

-- a number behind a blank
abbrev pub number_in : ℕ → List ℕ → Option (ℕ × List ℕ)
number_in limit text = do
  rest ← word_in (codes " ") text
  digits_in limit rest

-- a number behind a label and a blank
abbrev pub labelled_in : List ℕ → ℕ → List ℕ → Option (ℕ × List ℕ)
labelled_in label limit text = do
  rest ← word_in label text
  number_in limit rest

-- a number behind a label and a blank, and the line's end
abbrev pub closing_in : List ℕ → List ℕ → Option (ℕ × List ℕ)
closing_in label text = do
  found ← labelled_in label most text
  rest ← word_in (10 ∷ []) found.1
  Some (found.0, rest)

-- what stands behind a word and these numbers
abbrev pub given_in : List ℕ → List ℕ → List ℕ → Option (List ℕ)
given_in word numbers text = do
  rest ← word_in word text
  word_in (fields numbers) rest

-- what a find weighs, its first ticket and its last, and the line's end
abbrev pub visits_in : List ℕ → Option (Visits × List ℕ)
visits_in text = do
  weight ← labelled_in (codes " weight") most text
  first ← labelled_in (codes " first") most weight.1
  last ← closing_in (codes " last") first.1
  Some (record { weight = weight.0; first = first.0; last = last.0 }, last.1)

-- a level, or a dash
abbrev pub level_or_dash : List ℕ → Option (ℕ × List ℕ) → Option (Option ℕ × List ℕ)
level_or_dash text (Some found) = Some (Some found.0, found.1)
level_or_dash text None = do
  rest ← word_in (codes " -") text
  Some (None, rest)

-- the level of a find that climbed, or a dash
abbrev pub level_in : ℕ → List ℕ → Option (Option ℕ × List ℕ)
level_in levels text = level_or_dash text (number_in levels text)

-- where a find answers
abbrev pub place_in : Bounds → List ℕ → Option (Place × List ℕ)
place_in bounds text = do
  node ← labelled_in (codes " at") bounds.nodes text
  number ← labelled_in (codes " number") most node.1
  rest ← word_in (codes " level") number.1
  level ← level_in bounds.levels rest
  Some (record { node = node.0; number = number.0; level = level.0 }, level.1)

-- the two other causes
abbrev pub other_why : List ℕ → Option (List ℕ) → Option (Why × List ℕ)
other_why text (Some rest) = Some (NoEntry, rest)
other_why text None = do
  rest ← word_in (codes " chased") text
  Some (Chased, rest)

-- the node that had no mark, or another cause
abbrev pub empty_or_other : Bounds → List ℕ → Option (List ℕ) → Option (Why × List ℕ)
empty_or_other bounds text (Some rest) = do
  node ← number_in bounds.nodes rest
  Some (Empty node.0, node.1)
empty_or_other bounds text None = other_why text (word_in (codes " none") text)

-- why a find has to be made again
abbrev pub why_in : Bounds → List ℕ → Option (Why × List ℕ)
why_in bounds text = empty_or_other bounds text (word_in (codes " empty") text)

-- the line of a move
abbrev pub move_in : ℕ → ℕ → ℕ → ℕ → List ℕ → Option (Done × List ℕ)
move_in actor number from to text = do
  rest ← given_in (codes "move") (actor ∷ number ∷ from ∷ to ∷ []) text
  weight ← labelled_in (codes " weight") most rest
  first ← labelled_in (codes " first") most weight.1
  commit ← labelled_in (codes " commit") most first.1
  last ← closing_in (codes " last") commit.1
  Some (Moved actor number from to weight.0 first.0 commit.0 last.0, last.1)

-- the line of a switch
abbrev pub switch_in : ℕ → Bool → ℕ → ℕ → List ℕ → Option (Done × List ℕ)
switch_in actor off node number text = do
  rest ← given_in (codes "switch") (actor ∷ []) text
  rest ← given_in (switch_field off) (node ∷ []) rest
  rest ← given_in (codes " number") (number ∷ []) rest
  ticket ← closing_in (codes " ticket") rest
  Some (Switched actor off node number ticket.0, ticket.1)

-- what becomes of a find that answers
abbrev pub answer : Bool → ℕ → ℕ → ℕ → Place → Visits → Done
answer off actor from sub place visits =
    if off
    then Off actor from sub place.node place.number place.level
    visits.weight visits.first visits.last
    else Found actor from sub place.node place.number place.level
    visits.weight visits.first visits.last

-- the line of a find that answers, behind its first word
abbrev pub answer_in : Bounds → Bool → ℕ → ℕ → ℕ → List ℕ → Option (Done × List ℕ)
answer_in bounds off actor from sub text = do
  rest ← word_in (fields (actor ∷ from ∷ sub ∷ [])) text
  place ← place_in bounds rest
  visits ← visits_in place.1
  Some (answer off actor from sub place.0 visits.0, visits.1)

-- the line of a find that is to be made again, behind its first word
abbrev pub again_in : Bounds → ℕ → ℕ → ℕ → List ℕ → Option (Done × List ℕ)
again_in bounds actor from sub text = do
  rest ← word_in (fields (actor ∷ from ∷ sub ∷ [])) text
  why ← why_in bounds rest
  visits ← visits_in why.1
  Some (Again actor from sub why.0 visits.0.weight visits.0.first visits.0.last, visits.1)

-- behind the word of a find that answers off, or else that of one to be made again
abbrev pub off_or_again : Bounds → ℕ → ℕ → ℕ → List ℕ → Option (List ℕ)
    → Option (Done × List ℕ)
off_or_again bounds actor from sub text (Some rest) = answer_in bounds true actor from sub rest
off_or_again bounds actor from sub text None = do
  rest ← word_in (codes "again") text
  again_in bounds actor from sub rest

-- behind the word of a find that answers a node, or else one of the other two words
abbrev pub found_or_other : Bounds → ℕ → ℕ → ℕ → List ℕ → Option (List ℕ)
    → Option (Done × List ℕ)
found_or_other bounds actor from sub text (Some rest) = answer_in bounds false actor from sub rest
found_or_other bounds actor from sub text None =
    off_or_again bounds actor from sub text (word_in (codes "off") text)

-- the line of a find
abbrev pub find_in : Bounds → ℕ → ℕ → ℕ → List ℕ → Option (Done × List ℕ)
find_in bounds actor from sub text =
    found_or_other bounds actor from sub text (word_in (codes "find") text)

-- the line of a call
abbrev pub call_in : Bounds → Slot → List ℕ → Option (Done × List ℕ)
call_in bounds (Move actor number from to) text = move_in actor number from to text
call_in bounds (Switch actor off node number) text = switch_in actor off node number text
call_in bounds (Find actor from sub) text = find_in bounds actor from sub text

-- the reading goes on with what was found, or ends behind so many lines
abbrev pub or_lines : {A B : Type 0} → ℕ → Option A → (A → Result B ℕ) → Result B ℕ
or_lines lines None next = Err lines
or_lines lines (Some found) next = next found

-- the lines of calls behind those that were read, and what stands behind them; or how many of the
-- lines can be read
unfoldable pub calls_in : Bounds → List Done → List Slot → List ℕ → Result (List Done × List ℕ) ℕ
calls_in bounds before [] text = Ok (before, text)
calls_in bounds before (slot ∷ slots) text =
    or_lines (length before) (call_in bounds slot text)
    (λ found. calls_in bounds (before ++ found.0 ∷ []) slots found.1)

-- the line has ended, or goes on
abbrev pub ended : List ℕ → Option (List ℕ) → Option (List ℕ × List ℕ)
    → Option (List ℕ × List ℕ)
ended before (Some rest) next = Some (before, rest)
ended before None next = next

-- numbers up to the line's end, at most so many, behind those that were read
unfoldable pub numbers_in : ℕ → List ℕ → List ℕ → Option (List ℕ × List ℕ)
numbers_in zero before text = do
  rest ← word_in (10 ∷ []) text
  Some (before, rest)
numbers_in (suc room) before text =
    ended before (word_in (10 ∷ []) text) (do
      number ← number_in most text
      numbers_in room (before ++ number.0 ∷ []) number.1)

-- the numbers of a line of the order, behind its word
abbrev pub order_in : List ℕ → List ℕ → Option (List ℕ × List ℕ)
order_in before text = do
  number ← number_in most text
  numbers_in 63 (before ++ number.0 ∷ []) number.1

-- how many lines an order has
abbrev pub order_line_count : List ℕ → ℕ
order_line_count order = (length order + 63) / 64

-- a line of the order begins, or the order has ended
abbrev pub in_order : List ℕ → List ℕ → Option (List ℕ)
    → (List ℕ → Result (List ℕ × List ℕ) ℕ) → Result (List ℕ × List ℕ) ℕ
in_order before text None next = Ok (before, text)
in_order before text (Some rest) next = next rest

-- the lines of the order behind those that were read; a line that isn't full is the last one
unfoldable pub orders_in : ℕ → List ℕ → List ℕ → Result (List ℕ × List ℕ) ℕ
orders_in zero before text = Ok (before, text)
orders_in (suc more) before text =
    if length before % 64 == 0
    then in_order before text (word_in (codes "order") text) (λ rest.
    or_lines (order_line_count before) (order_in before rest)
    (λ found. orders_in more found.0 found.1))
    else Ok (before, text)

-- the number of visits, and the line's end
abbrev pub end_in : List ℕ → Option (ℕ × List ℕ)
end_in = closing_in (codes "end")

-- nothing stands behind the end
abbrev pub nothing_behind : ℕ → List ℕ → Outcome → Result Outcome ℕ
nothing_behind lines [] outcome = Ok outcome
nothing_behind lines (b ∷ text) outcome = Err (suc lines)

-- the last line tells how many visits there are
abbrev pub ends_with : ℕ → Option (ℕ × List ℕ) → Outcome → Result Outcome ℕ
ends_with lines None outcome = Err lines
ends_with lines (Some found) outcome =
    if found.0 == length outcome.order then nothing_behind lines found.1 outcome else Err lines

-- how many lines the calls and the order of a report have
abbrev pub lines_before_end : Outcome → ℕ
lines_before_end outcome = length outcome.calls + order_line_count outcome.order

-- the end of a report whose calls and order these are
abbrev pub report_end : Outcome → List ℕ → Result Outcome ℕ
report_end outcome text = ends_with (lines_before_end outcome) (end_in text) outcome

-- as many lines more
abbrev pub lines_more : {A : Type 0} → ℕ → Result A ℕ → Result A ℕ
lines_more lines (Ok found) = Ok found
lines_more lines (Err more) = Err (lines + more)

-- the reading goes on, if it wasn't ended
abbrev pub and_then : {A B : Type 0} → Result A ℕ → (A → Result B ℕ) → Result B ℕ
and_then (Ok found) next = next found
and_then (Err lines) next = Err lines

-- what a report says, or how many of its lines can be read
abbrev pub report_in : Bounds → List Slot → List ℕ → Result Outcome ℕ
report_in bounds slots text =
    and_then (calls_in bounds [] slots text)
    (λ calls. and_then (lines_more (length calls.0) (orders_in (length calls.1) [] calls.1))
    (λ order. report_end (record { calls = calls.0; order = order.0 }) order.1))
