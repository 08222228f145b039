-- A caller in a history: its walk has seen the words of the find that it is at, it keeps the ticket
-- of that find's first look, and its lines are those of the finds that are done.
-- Key law: `Caller::look`, by its clause (so many turns make the caller's next looks, or none is
-- left).
use Rattle.std.specs.Prelude.{◌≡◌, ℕ, ◌<◌, nat_lt, if◌then◌else◌, List, [], ◌∷◌, ◌++◌, Option, Some, None, drop, length, slice_index, vec_capacity}
use Rattle.entry_word.specs.declared.visit.Key.{Key}
use Rattle.directory.specs.Histories.{History, tickets}
use Rattle.directory.specs.Looks.{look_by}
use Rattle.directory.specs.Orders.{Caller as Seeker, caller_in, finds_of, next}
use Rattle.directory.specs.Outcomes.{caller_lines}
use Rattle.net_reader.specs.Input.{Contents}
use Rattle.region_plan.specs.Plan.{PlanData}
use Rattle.machine.specs.declared.caller.Caller.{Caller}
use Rattle.machine.specs.declared.turn.Turn.{Turn}
use Rattle.machine.specs.declared.turn.Turn.TheVariants.{Visited, Finished}
use Rattle.scripts.specs.Scripts.{scripts_of}
use Rattle.visit_log.specs.Cells.{CellData}
use Rattle.machine.specs.Stands.{AreMade, IsWalking, Sees, setting_over}

-- the ticket of the first look of the find under way, if it has looked
abbrev pub first_ticket : Seeker → List ℕ → Option ℕ
first_ticket seeker seen =
    if nat_lt seeker.first seeker.next then Some (slice_index seen seeker.first) else None

-- a caller is as far as a history says; it has room for just the lines of all its finds
pub record IsCaller (input : Contents) (plan : PlanData) (history : History) (actor : ℕ)
    (caller : Caller) : Type 0 where
  pub walk : IsWalking plan
      (caller_in (setting_over input plan) (scripts_of input) history actor).calls
      (caller_in (setting_over input plan) (scripts_of input) history actor).pursuit caller.walk
  pub first : caller.first
      ≡ first_ticket (caller_in (setting_over input plan) (scripts_of input) history actor)
      (tickets actor history)
  pub lines : caller.lines.items
      ≡ caller_lines (setting_over input plan) (scripts_of input) history actor
  pub left : (caller_in (setting_over input plan) (scripts_of input) history actor).calls
      ≡ drop (length caller.lines.items)
      (finds_of (setting_over input plan) (scripts_of input) actor)
  pub room : vec_capacity caller.lines
      ≡ length (finds_of (setting_over input plan) (scripts_of input) actor)

-- a turn makes its next look, or none is left and nothing changes
abbrev pub HasLooked : Contents → PlanData → History → ℕ → Caller → Caller → Turn → Type 0
HasLooked input plan history actor old new Finished =
    (next (setting_over input plan) (scripts_of input) history actor ≡ None) × (new ≡ old)
HasLooked input plan history actor old new Visited =
    (key : Key) × (next (setting_over input plan) (scripts_of input) history actor
    ≡ Some (look_by actor key))
    × IsCaller input plan (history ++ look_by actor key ∷ []) actor new

-- so many turns make so many looks, and the caller is as far as they say
abbrev pub HasPassed : Contents → PlanData → CellData → History → ℕ → ℕ → Caller → Type 0
HasPassed input plan cells history actor count new =
    AreMade input plan cells history actor count (λ later. IsCaller input plan later actor new)

-- a caller has its turn with a ticket: it is as far as some history of so many visits says, which
-- the cells hold
abbrev pub MayLook : Contents → PlanData → CellData → ℕ → ℕ → Caller → Type 0
MayLook input plan cells ticket actor caller =
    (history : History) × Sees input plan cells history × (length history ≡ ticket)
    × IsCaller input plan history actor caller

-- it has its turn, whichever history that is
abbrev pub Looks : Contents → PlanData → CellData → ℕ → ℕ → Caller → Caller → Turn → Type 0
Looks input plan cells ticket actor old new turn =
    (history : History) → Sees input plan cells history → length history ≡ ticket
    → IsCaller input plan history actor old
    → HasLooked input plan history actor old new turn

-- it makes so many looks, whichever history that is
abbrev pub MakesLooks : Contents → PlanData → CellData → ℕ → ℕ → ℕ → Caller → Caller → Type 0
MakesLooks input plan cells ticket actor count old new =
    (history : History) → Sees input plan cells history → length history ≡ ticket
    → IsCaller input plan history actor old
    → HasPassed input plan cells history actor count new

-- it makes so many of the looks that it may, whichever history that is, and where these are fewer
-- it has none left
abbrev pub TakesLooks : Contents → PlanData → CellData → ℕ → ℕ → ℕ → Caller → Caller → ℕ → Type 0
TakesLooks input plan cells ticket actor most old new count =
    (history : History) → Sees input plan cells history → length history ≡ ticket
    → IsCaller input plan history actor old
    → (made : HasPassed input plan cells history actor count new)
    × (count < most → next (setting_over input plan) (scripts_of input) (history ++ made.visits)
    actor ≡ None)
