-- The price of every find, quiet or not and whatever it answers: what it may weigh, told by its
-- first look and by the moves that are committed within it.
-- Key laws: `every_find_has_its_price`.
use Rattle.std.specs.Prelude.{◌≡◌, ℕ, ◌+◌, ◌-◌, ◌*◌, ◌<◌, ◌≤◌, ◌^◌, max, List, drop, fold, sum_by, take}
use Rattle.directory.specs.Settings.{Setting}
use Rattle.directory.specs.Histories.{before, History}
use Rattle.directory.specs.Courses.{base, Move}
use Rattle.directory.specs.Legal.{IsLegal}
use Rattle.directory.specs.Finds.{FindCall, found_weight}
use Rattle.directory.specs.Looks.{first_of, IsFind, last_of}
use Rattle.directory.specs.Standing.{number, passage, standing}
use Rattle.directory.specs.declared.answers.Found.{Found}
use Rattle.stretch_laws.specs.Tracking.{IsTracking, radius, stretch}
use Rattle.busy_finds.specs.Within.{moves_of}

-- each level is renewed after no less than half of its radius
abbrev pub GathersHalf : Setting → Type 0
GathersHalf setting =
    (level : ℕ) → level ≤ setting.top → radius level ≤ 2 * setting.threshold level

-- the moves of a subscriber that are committed between two tickets, in order
abbrev pub moves_within : Setting → ℕ → History → ℕ → ℕ → List Move
moves_within setting sub history first last =
    drop (number sub (before first history))
    (take (number sub (before last history)) (moves_of setting sub history))

-- what moves weigh together
abbrev pub weight_of : List Move → ℕ
weight_of moves = sum_by (λ move. move.weight) moves

-- the greatest threshold of the levels that moves renew up to, and 0 without moves
abbrev pub greatest_threshold : Setting → List Move → ℕ
greatest_threshold setting moves =
    fold (λ most move. max most (setting.threshold move.renewed)) 0 moves

-- what a find may weigh, when these moves were committed within it: the stretch times its distance,
-- or times the greatest threshold that the moves reached, if that is more; twice the passage that
-- was open; and what the moves weigh. Distance and passage are told before its first look
abbrev pub price : Setting → ℕ → ℕ → FindCall → History → List Move → ℕ
price setting width most_readers call seen moves =
    stretch width most_readers
    * max (setting.distance call.from (standing setting call.sub seen))
    (greatest_threshold setting moves)
    + 2 * passage setting call.sub seen + weight_of moves

-- no find weighs more than its price, whatever falls within it and whatever it answers
-- (`every_find_has_its_price`)
abbrev pub FindsHaveTheirPrice : Type 0
FindsHaveTheirPrice =
    (setting : Setting) (width most_readers : ℕ) (history : History) (actor : ℕ) (call : FindCall)
    (found : Found) (tickets : List ℕ) → setting.nodes ≤ 2 ^ 16
    → IsTracking setting width most_readers → GathersHalf setting → call.from < setting.nodes
    → IsLegal setting call.sub history → IsFind setting history actor call found tickets
    → found_weight found ≤ price setting width most_readers call (before (first_of tickets) history)
    (moves_within setting call.sub history (first_of tickets) (last_of tickets))

-- a find with no commit of its subscriber within it, though other visits of a move may fall within
-- it, weighs at most the stretch times its distance, and twice the passage that was open before its
-- first look, whatever it answers (`every_find_has_its_price`)
abbrev pub FindsBetweenCommits : Type 0
FindsBetweenCommits =
    (setting : Setting) (width most_readers : ℕ) (history : History) (actor : ℕ) (call : FindCall)
    (found : Found) (tickets : List ℕ) → setting.nodes ≤ 2 ^ 16
    → IsTracking setting width most_readers → call.from < setting.nodes
    → IsLegal setting call.sub history → IsFind setting history actor call found tickets
    → number call.sub (before (last_of tickets) history)
    ≡ number call.sub (before (first_of tickets) history)
    → found_weight found ≤ stretch width most_readers
    * setting.distance call.from
    (standing setting call.sub (before (first_of tickets) history))
    + 2 * passage setting call.sub (before (first_of tickets) history)

-- what the highest level that a move renews had gathered, with this move's weight: that of the moves
-- since the level was renewed before
abbrev pub gathered_by : List Move → Move → ℕ
gathered_by moves move =
    sum_by (λ past. past.weight)
    (drop (base move.renewed (take (move.number - 1) moves)) (take move.number moves))

-- what the moves that are committed between two tickets had gathered
abbrev pub gathered_within : Setting → ℕ → History → ℕ → ℕ → ℕ
gathered_within setting sub history first last =
    sum_by (gathered_by (moves_of setting sub history)) (moves_within setting sub history first last)

-- no find weighs more than this many times its distance and what the moves within had gathered, and
-- twice the passage that was open before its first look; the distance may be told at any ticket
-- from its first look to its last (`every_find_has_its_price`)
abbrev pub EveryFindIsBounded : Type 0
EveryFindIsBounded =
    (setting : Setting) (width most_readers : ℕ) (history : History) (actor : ℕ) (call : FindCall)
    (found : Found) (tickets : List ℕ) (ticket : ℕ) → setting.nodes ≤ 2 ^ 16
    → IsTracking setting width most_readers → GathersHalf setting → call.from < setting.nodes
    → IsLegal setting call.sub history → IsFind setting history actor call found tickets
    → first_of tickets ≤ ticket → ticket ≤ last_of tickets
    → found_weight found ≤ (stretch width most_readers + 1)
    * (setting.distance call.from (standing setting call.sub (before ticket history))
    + gathered_within setting call.sub history (first_of tickets) (last_of tickets))
    + 2 * passage setting call.sub (before (first_of tickets) history)
