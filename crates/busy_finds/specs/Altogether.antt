-- Finds of one subscriber that follow one another, as those of one caller do: what they weigh in
-- all. Each move is charged to one of them at most, and what a subscriber's moves gather is in all
-- at most what it moved, once for each level.
-- Key laws: `finds_in_turn_are_bounded`, `missed_finds_are_few`, `agains_are_few`.
use Rattle.std.specs.Prelude.{◌≡◌, ℕ, ◌+◌, ◌*◌, ◌<◌, ◌≤◌, ◌==◌, ◌^◌, if◌then◌else◌, List, [], ◌∷◌, sum_by}
use Rattle.directory.specs.Settings.{levels, Setting}
use Rattle.directory.specs.Histories.{before, History}
use Rattle.directory.specs.Courses.{Move}
use Rattle.directory.specs.Legal.{IsLegal}
use Rattle.directory.specs.Finds.{FindCall, found_weight}
use Rattle.directory.specs.Looks.{first_of, IsFind, last_of}
use Rattle.directory.specs.Standing.{number, passage, standing}
use Rattle.directory.specs.declared.answers.Found.{Found}
use Rattle.directory.specs.declared.answers.Found.TheVariants.{At, Off as OffAt, Again}
use Rattle.directory.specs.declared.answers.Why.TheVariants.{Empty as EmptyAt, NoEntry, Chased}
use Rattle.trail_laws.specs.Rightness.{ReadsTop}
use Rattle.stretch_laws.specs.Tracking.{IsTracking, stretch}
use Rattle.busy_finds.specs.Prices.{GathersHalf, weight_of}
use Rattle.busy_finds.specs.Within.{moves_of}

-- a find that was made: by whom, its call and its answer, and the tickets of its looks
pub record MadeFind : Type 0 where
  pub actor : ℕ
  pub call : FindCall
  pub found : Found
  pub tickets : List ℕ

-- finds of a subscriber, each of which begins no earlier than the one before has ended, and the
-- first no earlier than a ticket
abbrev pub AreInTurn : Setting → History → ℕ → ℕ → List MadeFind → Type 0
AreInTurn setting history sub earliest [] = Unit {0}
AreInTurn setting history sub earliest (find ∷ later) =
    (find.call.sub ≡ sub) × (find.call.from < setting.nodes)
    × IsFind setting history find.actor find.call find.found find.tickets
    × (earliest ≤ first_of find.tickets)
    × AreInTurn setting history sub (last_of find.tickets) later

-- what finds weigh in all
abbrev pub weigh_in_all : List MadeFind → ℕ
weigh_in_all finds = sum_by (λ find. found_weight find.found) finds

-- the distance of a find, told before its first look, and that of some finds in all
abbrev pub distance_before : Setting → History → MadeFind → ℕ
distance_before setting history find =
    setting.distance find.call.from
    (standing setting find.call.sub (before (first_of find.tickets) history))

abbrev pub distance_in_all : Setting → History → List MadeFind → ℕ
distance_in_all setting history finds = sum_by (distance_before setting history) finds

-- the passage that was open before a find's first look, and those of some finds in all
abbrev pub passage_before : Setting → History → MadeFind → ℕ
passage_before setting history find =
    passage setting find.call.sub (before (first_of find.tickets) history)

abbrev pub passages_in_all : Setting → History → List MadeFind → ℕ
passages_in_all setting history finds = sum_by (passage_before setting history) finds

-- finds of a subscriber in turn weigh in all at most so many times their distances and what the
-- subscriber moved, once for each level, and twice the passages that were open before them
-- (`finds_in_turn_are_bounded`)
abbrev pub FindsInTurnAreBounded : Type 0
FindsInTurnAreBounded =
    (setting : Setting) (width most_readers : ℕ) (history : History) (sub : ℕ)
    (finds : List MadeFind) → setting.nodes ≤ 2 ^ 16
    → IsTracking setting width most_readers → GathersHalf setting → IsLegal setting sub history
    → AreInTurn setting history sub 0 finds
    → weigh_in_all finds ≤ (stretch width most_readers + 1)
    * (distance_in_all setting history finds
    + levels setting * weight_of (moves_of setting sub history))
    + 2 * passages_in_all setting history finds

-- 1 for an answer that no address was met, or a node that was emptied, and 0 for another
abbrev pub missed_once : Found → ℕ
missed_once (At node number level weight) = 0
missed_once (OffAt node number level weight) = 0
missed_once (Again (EmptyAt node) weight) = 1
missed_once (Again NoEntry weight) = 1
missed_once (Again Chased weight) = 0

-- 1 for a move that renews the top level, and 0 for another
abbrev pub top_once : Setting → Move → ℕ
top_once setting move = if move.renewed == setting.top then 1 else 0

-- of finds of a subscriber in turn no more met no address, or a node that was emptied, than moves
-- of the subscriber renewed the top level (`missed_finds_are_few`)
abbrev pub MissedFindsAreFew : Type 0
MissedFindsAreFew =
    (setting : Setting) (history : History) (sub : ℕ) (finds : List MadeFind)
    → setting.nodes ≤ 2 ^ 16 → ReadsTop setting → IsLegal setting sub history
    → AreInTurn setting history sub 0 finds
    → sum_by (λ find. missed_once find.found) finds
    ≤ sum_by (top_once setting) (moves_of setting sub history)

-- 1 for an answer that a chase took too many hops, and 0 for another
abbrev pub chased_once : Found → ℕ
chased_once (At node number level weight) = 0
chased_once (OffAt node number level weight) = 0
chased_once (Again (EmptyAt node) weight) = 0
chased_once (Again NoEntry weight) = 0
chased_once (Again Chased weight) = 1

-- 1 for an answer that a find is to be made again, and 0 for another
abbrev pub again_once : Found → ℕ
again_once (At node number level weight) = 0
again_once (OffAt node number level weight) = 0
again_once (Again why weight) = 1

-- of finds of a subscriber in turn, the chases of no more took too many hops than a third of its
-- commits (`agains_are_few`)
abbrev pub ChasedFindsAreFew : Type 0
ChasedFindsAreFew =
    (setting : Setting) (history : History) (sub : ℕ) (finds : List MadeFind)
    → setting.nodes ≤ 2 ^ 16 → IsLegal setting sub history
    → AreInTurn setting history sub 0 finds
    → 3 * sum_by (λ find. chased_once find.found) finds ≤ number sub history

-- and no more of them are to be made again than its moves that renewed the top level and a third of
-- its commits (`agains_are_few`)
abbrev pub AgainsAreFew : Type 0
AgainsAreFew =
    (setting : Setting) (history : History) (sub : ℕ) (finds : List MadeFind)
    → setting.nodes ≤ 2 ^ 16 → ReadsTop setting → IsLegal setting sub history
    → AreInTurn setting history sub 0 finds
    → 3 * sum_by (λ find. again_once find.found) finds
    ≤ 3 * sum_by (top_once setting) (moves_of setting sub history) + number sub history
