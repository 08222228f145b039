-- When a report is sound: what its lines and its order must tell, in five parts, of which the first
-- is their form (`Reading`). Tickets: each call has the tickets of its actor behind the end of the
-- call before and up to its own end, and its line names the first and the last of them, and a
-- move's commit between these; no ticket is left over. Place: a find that answers names where the
-- last move before its last visit went, how many moves there were, and whether the last switch
-- before it went off. Again: a find that is to be made again had a visit of a move within it.
-- Weight: a move weighs its distance; a find that had no such visit weighs at most the stretch
-- times its distance, and twice the weight of a move that was committed and not yet confirmed.
-- Key laws: `check` finds the first flaw (`verdict_of`); `worked_reports` computes rows.
use Rattle.std.specs.Prelude.{ℕ, suc, ◌+◌, ◌*◌, ◌==◌, ◌&&◌, ◌||◌, Bool, true, false, not, nat_lt, nat_le, if◌then◌else◌, fold, List, [], ◌∷◌, drop, slice_get, slice_index, Option, Some, None}
use Rattle.std.specs.List.{list_any}
use Rattle.directory.specs.CallLines.{actor_of, by_find, is_answered}
use Rattle.directory.specs.declared.answers.Done.{Done}
use Rattle.directory.specs.declared.answers.Done.TheVariants.{Moved, Switched}
use Rattle.directory.specs.declared.answers.Found.{Found}
use Rattle.directory.specs.declared.answers.Found.TheVariants.{At, Off as OffAt, Again}
use Rattle.directory.specs.Finds.{found_weight}
use Rattle.region_plan.specs.Measures.{stretch_of}
use Rattle.region_plan.specs.Plan.{PlanData}
use Rattle.region_plan.specs.Settings.{setting_of}
use Rattle.report_check.specs.declared.told.Told.{Told}

-- whether a line is an actor's
abbrev pub is_of : ℕ → Done → Bool
is_of actor call = actor_of call == actor

-- what is asked of the place that an answer names, with whether its subscriber is off
abbrev pub if_answered : (Bool → ℕ → ℕ → Bool) → Found → Bool
if_answered holds (At node number level weight) = holds false node number
if_answered holds (OffAt node number level weight) = holds true node number
if_answered holds (Again why weight) = true

-- the end of a call: its last ticket
abbrev pub end_of : Done → ℕ
end_of (Moved actor number from to weight first commit last) = last
end_of (Switched actor off node number ticket) = ticket
end_of call = by_find 0 (λ find. find.last) call

-- whether this number is there
abbrev pub is_number : ℕ → Option ℕ → Bool
is_number n None = false
is_number n (Some other) = other == n

-- whether a ticket is an actor's
abbrev pub is_ticket : List ℕ → ℕ → ℕ → Bool
is_ticket order actor ticket = is_number actor (slice_get order ticket)

-- the first ticket of an actor among later ones, the first of which is this
unfoldable pub first_from : ℕ → ℕ → List ℕ → Option ℕ
first_from actor ticket [] = None
first_from actor ticket (other ∷ later) =
    if other == actor then Some ticket else first_from actor (suc ticket) later

-- the ticket behind another, or the first of all
abbrev pub behind : Option ℕ → ℕ
behind None = 0
behind (Some ticket) = suc ticket

-- the first ticket of an actor behind a ticket, or of all
abbrev pub next_ticket : List ℕ → ℕ → Option ℕ → Option ℕ
next_ticket order actor before = first_from actor (behind before) (drop (behind before) order)

-- Tickets: the first ticket of a move or of a find is the actor's first behind the call before, and
-- the last one is no earlier
abbrev pub has_tickets : List ℕ → Option ℕ → ℕ → ℕ → ℕ → Bool
has_tickets order before actor first last =
    is_number first (next_ticket order actor before) && (is_ticket order actor last
    && nat_le first last)

-- a switch has one ticket, and the commit of a move comes between its first and its last
abbrev pub tickets_hold : List ℕ → Option ℕ → Done → Bool
tickets_hold order before (Moved actor number from to weight first commit last) =
    has_tickets order before actor first last
    && (is_ticket order actor commit && (nat_lt first commit && nat_lt commit last))
tickets_hold order before (Switched actor off node number ticket) =
    is_number ticket (next_ticket order actor before)
tickets_hold order before call =
    by_find true (λ find. has_tickets order before find.actor find.first find.last) call

-- whether there is none
abbrev pub is_missing : Option ℕ → Bool
is_missing None = true
is_missing (Some ticket) = false

-- no ticket of an actor is behind its last call
abbrev pub none_left : List ℕ → Done → Bool
none_left order call = is_missing (next_ticket order (actor_of call) (Some (end_of call)))

-- a subscriber where it starts, before its moves
abbrev pub at_start : ℕ → Told
at_start node = record { node = node; number = 0; is_off = false; commit = None; weight = 0 }

-- what a line more tells of a subscriber before a ticket: its moves that were committed before it,
-- and its switches
abbrev pub tell : ℕ → ℕ → Told → Done → Told
tell sub ticket told (Moved actor number from to weight first commit last) =
    if actor == sub && nat_lt commit ticket
    then record {
      node = to;
      number = suc told.number;
      is_off = told.is_off;
      commit = Some commit;
      weight = weight;
    } else told
tell sub ticket told (Switched actor off node number at) =
    if actor == sub && nat_lt at ticket then record told { is_off = off } else told
tell sub ticket told call = told

-- what the lines tell of a subscriber before a ticket
abbrev pub told_before : List ℕ → List Done → ℕ → ℕ → Told
told_before homes calls sub ticket = fold (tell sub ticket) (at_start (slice_index homes sub)) calls

-- Place: the node and the number are those of the last move, and the state that of the last switch
abbrev pub is_told : Told → Bool → ℕ → ℕ → Bool
is_told told off node number =
    told.node == node && (told.number == number
    && (if off then told.is_off else not told.is_off))

-- Place: only a find that answers names one
abbrev pub place_holds : List ℕ → List Done → Done → Bool
place_holds homes calls call =
    by_find true
    (λ find. if_answered (is_told (told_before homes calls find.sub find.last)) find.found) call

-- whether a line is that of a switch with this ticket
abbrev pub is_switch_at : ℕ → Done → Bool
is_switch_at ticket (Switched actor off node number at) = at == ticket
is_switch_at ticket call = false

-- whether a ticket of an actor is of a move: a subscriber's tickets are of moves, but for those of
-- its switches
abbrev pub is_of_move : List Done → ℕ → ℕ → ℕ → Bool
is_of_move calls sub ticket actor =
    actor == sub && not (list_any (is_switch_at ticket) calls)

-- whether one of later tickets, the first of which is this, is of a move and comes before the last
unfoldable pub meets_from : List Done → ℕ → ℕ → ℕ → List ℕ → Bool
meets_from calls sub last ticket [] = false
meets_from calls sub last ticket (actor ∷ later) =
    if nat_lt ticket last
    then (if is_of_move calls sub ticket actor then true
    else meets_from calls sub last (suc ticket) later)
    else false

-- whether a ticket of a move of a subscriber comes between two tickets; one without lines has no
-- move, whatever tickets the order gives it
abbrev pub meets_move : List Done → List ℕ → ℕ → ℕ → ℕ → Bool
meets_move calls order sub first last =
    list_any (is_of sub) calls && meets_from calls sub last (suc first) (drop (suc first) order)

-- Again: a find that is to be made again met a move
abbrev pub again_holds : List Done → List ℕ → Done → Bool
again_holds calls order call =
    by_find true
    (λ find. is_answered find.found || meets_move calls order find.sub find.first find.last) call

-- the weight of a move that isn't confirmed by a ticket: the confirm is the next ticket behind the
-- commit
abbrev pub unconfirmed : ℕ → ℕ → Option ℕ → ℕ
unconfirmed last weight None = 0
unconfirmed last weight (Some confirm) = if nat_lt last confirm then weight else 0

-- the weight of the passage that is open at a ticket
abbrev pub open_passage : List ℕ → ℕ → ℕ → Told → Option ℕ → ℕ
open_passage order sub last told None = 0
open_passage order sub last told (Some commit) =
    unconfirmed last told.weight (next_ticket order sub (Some commit))

-- Weight: the bound of a find that met no move
abbrev pub is_light : PlanData → List ℕ → List Done → List ℕ → ℕ → ℕ → ℕ → ℕ → ℕ → ℕ → Bool
is_light plan homes calls order from sub node weight first last =
    meets_move calls order sub first last
    || nat_le weight (stretch_of plan * (setting_of plan homes).distance from node
    + 2 * open_passage order sub last (told_before homes calls sub last)
    (told_before homes calls sub last).commit)

-- Weight: a move weighs its distance, and a find that answers is light
abbrev pub weight_holds : PlanData → List ℕ → List Done → List ℕ → Done → Bool
weight_holds plan homes calls order
    (Moved actor number from to weight first commit last) =
    (setting_of plan homes).distance from to == weight
weight_holds plan homes calls order call =
    by_find true
    (λ find. if_answered
    (λ off node number. is_light plan homes calls order find.from find.sub node
    (found_weight find.found) find.first find.last) find.found) call
