-- A subscriber in a history: its handset, before the writes that are ahead, has made its visits,
-- and its lines are those of the steps that it has begun, told by the tickets so far. A step that
-- isn't done has the ticket of its last visit so far as its last, and 0 as its commit before that
-- comes.
-- Key law: `Subscriber::write`, by its clause (so many turns make the subscriber's next visits, or
-- none is left).
use Rattle.std.specs.Global.{Vec}
use Rattle.std.specs.Prelude.{drop, ◌≡◌, ℕ, suc, ◌-◌, ◌<◌, ◌≤◌, ◌^◌, ◌≢◌, Bool, true, false, if◌then◌else◌, List, [], ◌∷◌, ◌++◌, Some, None, length, take, vec_capacity}
use Rattle.entry_word.specs.declared.visit.Visit.{Visit}
use Rattle.directory.specs.Settings.{start}
use Rattle.directory.specs.Courses.{Step, course_at}
use Rattle.directory.specs.Histories.{History, own, tickets}
use Rattle.directory.specs.Writes.{writes}
use Rattle.directory.specs.Orders.{next, steps_of}
use Rattle.directory.specs.Outcomes.{step_lines}
use Rattle.directory.specs.declared.answers.Done.{Done}
use Rattle.directory.specs.declared.answers.Done.TheVariants.{Moved, Switched, Found as FoundBy, Off as OffBy, Again as AgainBy}
use Rattle.net_reader.specs.declared.said.Call.{Call}
use Rattle.net_reader.specs.declared.said.Call.TheVariants as calls
use Rattle.net_reader.specs.Input.{Contents}
use Rattle.region_plan.specs.Plan.{PlanData, nodes_of}
use Rattle.region_plan.specs.Settings.{setting_of}
use Rattle.handset.specs.Condition.{GoesWith, HandsetData}
use Rattle.handset.specs.StepWrites.{due}
use Rattle.handset.specs.Stands.{StandsForSteps}
use Rattle.visit_log.specs.Cells.{CellData, GoWith, Hold}
use Rattle.machine.specs.declared.subscriber.Subscriber.{Subscriber}
use Rattle.machine.specs.declared.turn.Turn.{Turn}
use Rattle.machine.specs.declared.turn.Turn.TheVariants.{Visited, Finished}
use Rattle.scripts.specs.Scripts.{scripts_of}
use Rattle.machine.specs.Owed.{Owes}
use Rattle.machine.specs.Stands.{AreMade, setting_over, Sees}

-- the line of a step after one more of its visits, which commits or doesn't
abbrev pub line_after : Done → Bool → ℕ → Done
line_after (Moved actor number from to weight first commit last) commits ticket =
    Moved actor number from to weight first (if commits then ticket else commit) ticket
line_after (Switched actor off node number last) commits ticket =
    Switched actor off node number last
line_after (FoundBy actor from sub node number level weight first last) commits ticket =
    FoundBy actor from sub node number level weight first last
line_after (OffBy actor from sub node number level weight first last) commits ticket =
    OffBy actor from sub node number level weight first last
line_after (AgainBy actor from sub why weight first last) commits ticket =
    AgainBy actor from sub why weight first last

-- a handset may begin the step of a call
abbrev pub MayBegin : PlanData → HandsetData → Call → Type 0
MayBegin plan handset (calls.Move to) =
    (to < nodes_of plan) × (to ≢ handset.place) × (handset.is_off ≡ false)
    × (handset.number < 2 ^ 32 - 1)
MayBegin plan handset (calls.Find from sub) = ⊥
MayBegin plan handset calls.Off = handset.is_off ≡ false
MayBegin plan handset calls.On = handset.is_off ≡ true

-- the line of a step that a handset begins, with the ticket of its first visit
abbrev pub begun_line : PlanData → HandsetData → Call → ℕ → Done
begun_line plan handset (calls.Move to) ticket =
    Moved handset.sub (suc handset.number) handset.place to
    ((setting_of plan []).distance handset.place to) ticket 0 ticket
begun_line plan handset (calls.Find from sub) ticket =
    Switched handset.sub false handset.place handset.number ticket
begun_line plan handset calls.Off ticket =
    Switched handset.sub true handset.place handset.number ticket
begun_line plan handset calls.On ticket =
    Switched handset.sub false handset.place handset.number ticket

-- what is seen of a subscriber: its handset before the writes that are ahead, and its lines
pub record Shown : Type 0 where
  pub handset : HandsetData
  pub lines : Vec Done

-- that of a subscriber, with this handset
abbrev pub shown_at : HandsetData → Subscriber → Shown
shown_at handset subscriber = record { handset = handset; lines = subscriber.lines }

-- the steps that a subscriber with so many lines has begun
abbrev pub begun_steps : Contents → ℕ → Shown → List Step
begun_steps input sub shown =
    take (length shown.lines.items) (steps_of (scripts_of input) sub)

-- what is seen is as far as a history says; there is room for just the lines of all its steps
pub record IsShown (input : Contents) (plan : PlanData) (history : History) (sub : ℕ)
    (shown : Shown) : Type 0 where
  pub handset : StandsForSteps (setting_over input plan) shown.handset
      (begun_steps input sub shown) (length (own sub history))
  pub goes : GoesWith plan shown.handset
  pub its : shown.handset.sub ≡ sub
  pub lines : shown.lines.items
      ≡ step_lines (setting_over input plan) sub (course_at (start (setting_over input plan) sub))
      (begun_steps input sub shown) (tickets sub history)
  pub few : length shown.lines.items ≤ length (steps_of (scripts_of input) sub)
  -- the step under way has made a visit
  pub under : (before : List Step) (step : Step)
      → begun_steps input sub shown ≡ before ++ step ∷ []
      → length (writes (setting_over input plan)
      (course_at (start (setting_over input plan) sub)) before)
      < length (own sub history)
  pub room : vec_capacity shown.lines ≡ length (steps_of (scripts_of input) sub)

-- a subscriber is as far as a history says; it has room for just 64 writes ahead
pub record IsSubscriber (input : Contents) (plan : PlanData) (history : History) (sub : ℕ)
    (subscriber : Subscriber) : Type 0 where
  pub handset : HandsetData
  pub shown : IsShown input plan history sub (shown_at handset subscriber)
  pub owes : Owes plan (length input.homes) handset subscriber.handset
      (drop subscriber.made subscriber.ahead.items)
  pub goes : GoesWith plan subscriber.handset
  pub its : subscriber.handset.sub ≡ sub
  pub within : subscriber.made ≤ length subscriber.ahead.items
  pub space : vec_capacity subscriber.ahead ≡ 64
  -- where there was room for one write more, none came
  pub rests : length subscriber.ahead.items < vec_capacity subscriber.ahead
      → due (setting_of plan []) subscriber.handset ≡ None

-- a turn makes its next visit, or none is left and nothing changes
abbrev pub HasWritten : Contents → PlanData → History → ℕ → Subscriber → Subscriber → CellData
    → CellData → Turn → Type 0
HasWritten input plan history sub old new cells after Finished =
    (next (setting_over input plan) (scripts_of input) history sub ≡ None) × (new ≡ old)
    × (after ≡ cells)
HasWritten input plan history sub old new cells after Visited =
    (visit : Visit) × (next (setting_over input plan) (scripts_of input) history sub ≡ Some visit)
    × IsSubscriber input plan (history ++ visit ∷ []) sub new × GoWith plan after
    × Hold plan input.homes after (history ++ visit ∷ [])

-- a subscriber has its turn with a ticket: it is as far as some history of so many visits says,
-- which the cells hold
abbrev pub MayTakeTurn : Contents → PlanData → CellData → ℕ → ℕ → Subscriber → Type 0
MayTakeTurn input plan cells ticket sub subscriber =
    (history : History) × Sees input plan cells history × (length history ≡ ticket)
    × IsSubscriber input plan history sub subscriber

-- it takes its turn, whichever history that is
abbrev pub TakesTurn : Contents → PlanData → ℕ → ℕ → Subscriber → Subscriber → CellData → CellData
    → Turn → Type 0
TakesTurn input plan ticket sub old new cells after turn =
    (history : History) → Sees input plan cells history → length history ≡ ticket
    → IsSubscriber input plan history sub old
    → HasWritten input plan history sub old new cells after turn

-- it makes the visits of so many turns, whichever history that is
abbrev pub MakesTurns : Contents → PlanData → ℕ → ℕ → Subscriber → Subscriber → CellData → CellData
    → ℕ → Type 0
MakesTurns input plan ticket sub old new cells after count =
    (history : History) → Sees input plan cells history → length history ≡ ticket
    → IsSubscriber input plan history sub old
    → AreMade input plan after history sub count (λ later. IsSubscriber input plan later sub new)

-- it takes so many turns of those that it may, whichever history that is, and where these are fewer
-- it has none left
abbrev pub TakesTurns : Contents → PlanData → ℕ → ℕ → ℕ → Subscriber → Subscriber → CellData
    → CellData → ℕ → Type 0
TakesTurns input plan ticket sub most old new cells after count =
    (history : History) → Sees input plan cells history → length history ≡ ticket
    → IsSubscriber input plan history sub old
    → (made : AreMade input plan after history sub count
    (λ later. IsSubscriber input plan later sub new))
    × (count < most → next (setting_over input plan) (scripts_of input) (history ++ made.visits) sub
    ≡ None)
