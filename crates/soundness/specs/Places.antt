-- What the lines of a report tell of a subscriber before a ticket: its moves whose commits come
-- before it, and its switches before it. A find that answers names where its subscriber stood at
-- the find's last ticket, with how many moves, and whether it was off; and one that is to be made
-- again had a visit of a move of its subscriber within it.
-- Key laws: `own_reports_are_sound_texts` of own_reports; `sound_reports` and `unsound_reports`
-- (computed).
use Rattle.std.specs.Prelude.{◌≡◌, ℕ, ◌<◌, ◌==◌, ◌&&◌, nat_lt, if◌then◌else◌, Bool, true, false, filter_map, length, map, List, slice_get, slice_index, Option, Some, None}
use Rattle.std.specs.List.{last_or, list_any}
use Rattle.directory.specs.declared.answers.Done.{Done}
use Rattle.directory.specs.declared.answers.Done.TheVariants.{Moved, Switched, Found, Off, Again}

-- a move that counts from its commit on
pub record Passage : Type 0 where
  pub to : ℕ
  pub weight : ℕ
  pub commit : ℕ

-- the move that a line tells of, if it is this subscriber's and was committed before the ticket
abbrev pub move_before : ℕ → ℕ → Done → Option Passage
move_before sub ticket (Moved actor number from to weight first commit last) =
    if actor == sub && nat_lt commit ticket
    then Some (record { to = to; weight = weight; commit = commit }) else None
move_before sub ticket line = None

-- the moves of a subscriber before a ticket
abbrev pub moves_before : List Done → ℕ → ℕ → List Passage
moves_before lines sub ticket = filter_map (move_before sub ticket) lines

-- whether a line tells that this subscriber went off, or on, before the ticket
abbrev pub switch_before : ℕ → ℕ → Done → Option Bool
switch_before sub ticket (Switched actor off node number at) =
    if actor == sub && nat_lt at ticket then Some off else None
switch_before sub ticket line = None

-- at a ticket a subscriber stands at this node, after so many moves, and is off or isn't
pub record StandsAt (homes : List ℕ) (lines : List Done) (sub ticket node number : ℕ)
    (off : Bool) : Type 0 where
  pub node_is : last_or (Some (slice_index homes sub))
      (map (λ move. move.to) (moves_before lines sub ticket)) ≡ Some node
  pub number_is : length (moves_before lines sub ticket) ≡ number
  pub off_is : last_or (Some false) (filter_map (switch_before sub ticket) lines) ≡ Some off

-- an answer names where its subscriber stood at the find's last ticket
abbrev pub NamesPlace : List ℕ → List Done → Done → Type 0
NamesPlace homes lines (Found actor from sub node number level weight first last) =
    StandsAt homes lines sub last node number false
NamesPlace homes lines (Off actor from sub node number level weight first last) =
    StandsAt homes lines sub last node number true
NamesPlace homes lines line = Unit {0}

-- whether a line is that of a switch with this ticket
abbrev pub is_switch_at : ℕ → Done → Bool
is_switch_at ticket (Switched actor off node number at) = at == ticket
is_switch_at ticket line = false

-- a visit of a move of a subscriber lies between two tickets: each visit of a subscriber is of a
-- move, but for those of its switches
abbrev pub MeetsMove : List Done → List ℕ → ℕ → ℕ → ℕ → Type 0
MeetsMove lines order sub first last =
    (ticket : ℕ) × (first < ticket) × (ticket < last) × (slice_get order ticket ≡ Some sub)
    × (list_any (is_switch_at ticket) lines ≡ false)

-- a find that is to be made again met a move
abbrev pub HasCause : List Done → List ℕ → Done → Type 0
HasCause lines order (Again actor from sub why weight first last) =
    MeetsMove lines order sub first last
HasCause lines order line = Unit {0}
