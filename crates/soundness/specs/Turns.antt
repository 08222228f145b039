-- Whose turn it was. The order of a report names the actor of each visit, and a visit's place in it
-- is its ticket. The tickets of an actor fall into runs, one for each of its lines, in turn, and
-- none is left over: a line names the first and the last ticket of its run, a move's its commit
-- between them, and a switch has one ticket. And the order is a given one, completed: the turns of
-- an actor that are more than it makes are left out, and those that are missing come at the end, by
-- actor.
-- Key laws: `own_reports_are_sound_texts` of own_reports; `sound_reports` and `unsound_reports`
-- (computed).
use Rattle.std.specs.Prelude.{◌≡◌, ℕ, suc, ◌<◌, ◌≤◌, ◌==◌, nat_lt, if◌then◌else◌, fold, filter, length, List, [], ◌∷◌, ◌++◌, slice_index}
use Rattle.directory.specs.CallLines.{actor_of}
use Rattle.directory.specs.declared.answers.Done.{Done}
use Rattle.directory.specs.declared.answers.Done.TheVariants.{Moved, Switched, Found, Off, Again}

-- the tickets of an actor among turns the first of which has this ticket
unfoldable pub tickets_from : ℕ → ℕ → List ℕ → List ℕ
tickets_from actor ticket [] = []
tickets_from actor ticket (other ∷ later) =
    if other == actor then ticket ∷ tickets_from actor (suc ticket) later
    else tickets_from actor (suc ticket) later

-- the tickets of an actor in an order
abbrev pub tickets_of : ℕ → List ℕ → List ℕ
tickets_of actor order = tickets_from actor 0 order

-- the lines of an actor
abbrev pub lines_of : ℕ → List Done → List Done
lines_of actor lines = filter (λ line. actor_of line == actor) lines

-- of an actor's tickets the one at this place is the first of a line, and the one at that the last
abbrev pub HasEnds : List ℕ → ℕ → ℕ → ℕ → ℕ → Type 0
HasEnds seen from to first last =
    (from ≤ to) × (first ≡ slice_index seen from) × (last ≡ slice_index seen to)

-- a line has the tickets from this place to that
abbrev pub HasRun : List ℕ → ℕ → ℕ → Done → Type 0
HasRun seen from to (Moved actor number left goal weight first commit last) =
    HasEnds seen from to first last
    × ((place : ℕ) × (from < place) × (place < to) × (commit ≡ slice_index seen place))
HasRun seen from to (Switched actor off node number ticket) =
    (from ≡ to) × (ticket ≡ slice_index seen from)
HasRun seen from to (Found actor origin sub node number level weight first last) =
    HasEnds seen from to first last
HasRun seen from to (Off actor origin sub node number level weight first last) =
    HasEnds seen from to first last
HasRun seen from to (Again actor origin sub why weight first last) =
    HasEnds seen from to first last

-- lines have all of these tickets from a place on, one run after another
abbrev pub TakeTurns : List ℕ → ℕ → List Done → Type 0
TakeTurns seen place [] = place ≡ length seen
TakeTurns seen place (line ∷ later) =
    (end : ℕ) × (end < length seen) × HasRun seen place end line × TakeTurns seen (suc end) later

-- how many turns of an actor there are
abbrev pub turns_of : ℕ → List ℕ → ℕ
turns_of actor order = length (filter (λ other. other == actor) order)

-- turns, and one more of an actor, if of all turns it has more than these
abbrev pub with_turn : List ℕ → List ℕ → ℕ → List ℕ
with_turn all before actor =
    if nat_lt (turns_of actor before) (turns_of actor all) then before ++ actor ∷ [] else before

-- none of these is less than the one before it, nor the first less than this number
abbrev pub NeverFall : ℕ → List ℕ → Type 0
NeverFall least [] = Unit {0}
NeverFall least (actor ∷ later) = (least ≤ actor) × NeverFall actor later

-- an order is the given one, completed
abbrev pub Follows : List ℕ → List ℕ → Type 0
Follows given order =
    (rest : List ℕ) × (order ≡ fold (with_turn order) [] given ++ rest) × NeverFall 0 rest
