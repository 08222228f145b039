-- What moves and finds weigh: a move its distance, and a find that answers at most the stretch
-- times its distance, and twice the passage that is open at its last ticket, unless a visit of a
-- move of its subscriber lies within it. A passage is open from a move's commit up to the next
-- visit of its subscriber, and weighs what the move does.
-- Key laws: `own_reports_are_sound_texts` of own_reports; `sound_reports` and `unsound_reports`
-- (computed).
use Rattle.std.specs.Prelude.{◌≡◌, ℕ, ◌+◌, ◌*◌, ◌≤◌, nat_lt, if◌then◌else◌, List, Option, Some, None}
use Rattle.std.specs.List.{find, last_or}
use Rattle.directory.specs.declared.answers.Done.{Done}
use Rattle.directory.specs.declared.answers.Done.TheVariants.{Moved, Switched, Found, Off, Again}
use Rattle.soundness.specs.Places.{MeetsMove, Passage, moves_before}
use Rattle.soundness.specs.Turns.{tickets_of}

-- a weight that counts up to this ticket, if there is one
abbrev pub weight_until : Option ℕ → ℕ → ℕ → ℕ
weight_until None ticket weight = 0
weight_until (Some confirm) ticket weight = if nat_lt ticket confirm then weight else 0

-- what the passage of a move weighs at a ticket, by its subscriber's tickets: the first of them
-- after the commit confirms the move
abbrev pub open_weight : List ℕ → ℕ → Option Passage → ℕ
open_weight seen ticket None = 0
open_weight seen ticket (Some move) =
    weight_until (find (λ at. nat_lt move.commit at) seen) ticket move.weight

-- what the open passage of a subscriber weighs at a ticket: that of its last move, if it is open
abbrev pub open_passage : List Done → List ℕ → ℕ → ℕ → ℕ
open_passage lines order sub ticket =
    open_weight (tickets_of sub order) ticket (last_or None (moves_before lines sub ticket))

-- the weight of a find that answers, where its subscriber is this far from its origin
abbrev pub IsLight : ℕ → ℕ → List Done → List ℕ → ℕ → ℕ → ℕ → ℕ → Type 0
IsLight stretch far lines order sub weight first last =
    (MeetsMove lines order sub first last → ⊥)
    → weight ≤ stretch * far + 2 * open_passage lines order sub last

-- a line weighs what it may
abbrev pub IsWeighed : (ℕ → ℕ → ℕ) → ℕ → List Done → List ℕ → Done → Type 0
IsWeighed distance stretch lines order (Moved actor number from to weight first commit last) =
    weight ≡ distance from to
IsWeighed distance stretch lines order (Switched actor off node number ticket) = Unit {0}
IsWeighed distance stretch lines order
    (Found actor from sub node number level weight first last) =
    IsLight stretch (distance from node) lines order sub weight first last
IsWeighed distance stretch lines order
    (Off actor from sub node number level weight first last) =
    IsLight stretch (distance from node) lines order sub weight first last
IsWeighed distance stretch lines order (Again actor from sub why weight first last) = Unit {0}
