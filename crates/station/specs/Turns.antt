-- The log of turns: what the actors do at the locks of nodes, one after another. An actor wins the
-- turn at a node where nobody has it, and gives it back; or it finds the turn with another, and has
-- lost one. So the log tells whose turn it is at a node, at any time; and a turn is lost only while
-- it is another's.
--
-- What a view has logged is a front of the log, and no event of its own actors stands behind it. So
-- no step of a seat puts in, takes away or moves an event before the last one of another actor. Its
-- own events behind that one a step could write anew, by the rule alone: that the seat only adds to
-- them is what its calls tell (`Logs`, `LogsAll`).
--
-- Key law: `Tracker::witness`, by its clause `rule` (each lock word is as the log leaves it, and a
-- pass has lost just the turns that the log has as lost by its actor).
use Rattle.std.specs.Prelude.{◌≡◌, ◌≢◌, ℕ, suc, List, [], ◌∷◌, ◌++◌, ◌==◌, fold, map, if◌then◌else◌}
use Rattle.std.specs.List.{filter}
use Rattle.station.specs.Views.{StandsForActor, turn_at}
use Rattle.station.specs.declared.view.NodeTurn.{NodeTurn}
use Rattle.station.specs.declared.view.TurnEvent.{TurnEvent}
use Rattle.station.specs.declared.view.TurnEvent.TheVariants.{Won, GivenBack, Lost}
use Rattle.station.specs.declared.view.View.{View}

-- who did it
abbrev pub event_actor : TurnEvent → ℕ
event_actor (Won actor node) = actor
event_actor (GivenBack actor node) = actor
event_actor (Lost actor node word) = actor

-- what one actor did
abbrev pub events_of : ℕ → List TurnEvent → List TurnEvent
events_of actor log = filter (λ event. event_actor event == actor) log

-- the lock word of a node after an event
abbrev pub lock_after : ℕ → ℕ → TurnEvent → ℕ
lock_after node word (Won actor at) = if at == node then suc actor else word
lock_after node word (GivenBack actor at) = if at == node then 0 else word
lock_after node word (Lost actor at other) = word

-- the lock word of a node after all of a log: that of the actor whose turn it is, or 0
abbrev pub lock_in : List TurnEvent → ℕ → ℕ
lock_in log node = fold (lock_after node) 0 log

-- what may come after all of a log: a turn is won where it is nobody's, given back where it is the
-- actor's own, and lost where it is another's
abbrev pub IsInTurn : List TurnEvent → TurnEvent → Type 0
IsInTurn earlier (Won actor node) = lock_in earlier node ≡ 0
IsInTurn earlier (GivenBack actor node) = lock_in earlier node ≡ suc actor
IsInTurn earlier (Lost actor node word) =
    (lock_in earlier node ≡ word) × (word ≢ 0) × (word ≢ suc actor)

-- each event of a log may come after those before it
abbrev pub IsLog : List TurnEvent → Type 0
IsLog log =
    (earlier : List TurnEvent) (event : TurnEvent) (later : List TurnEvent)
    → log ≡ earlier ++ event ∷ later → IsInTurn earlier event

-- the turns that were lost
abbrev pub lost_in : List TurnEvent → List NodeTurn
lost_in [] = []
lost_in (Won actor node ∷ later) = lost_in later
lost_in (GivenBack actor node ∷ later) = lost_in later
lost_in (Lost actor node word ∷ later) = turn_at node word ∷ lost_in later

-- the turns that an actor lost, as events
abbrev pub losses : ℕ → List NodeTurn → List TurnEvent
losses actor turns = map (λ turn. Lost actor turn.node turn.word) turns

-- a view has logged all events of its actors: the log goes on from there by others alone; and it
-- has lost just the turns that are logged as lost by its actor, in that order
pub record HasLogged (log : List TurnEvent) (view : View) : Type 0 where
  pub later : List TurnEvent
  pub goes_on : log ≡ view.turns ++ later
  pub by_others : (actor : ℕ) → StandsForActor view actor → events_of actor later ≡ []
  pub lost : (actor : ℕ) → StandsForActor view actor
      → view.lost ≡ lost_in (events_of actor view.turns)

-- an event comes into a log: behind what its actor had logged before, and what others did since,
-- where it may come; and all of the log is such
pub record Logs (before : List TurnEvent) (event : TurnEvent) (log : List TurnEvent)
    : Type 0 where
  pub later : List TurnEvent
  pub by_others : events_of (event_actor event) later ≡ []
  pub goes_on : log ≡ (before ++ later) ++ event ∷ []
  pub in_turn : IsLog log

-- these events come into a log, each behind the one before it
abbrev pub LogsAll : List TurnEvent → List TurnEvent → List TurnEvent → Type 0
LogsAll before [] log = log ≡ before
LogsAll before (event ∷ later) log =
    (inside : List TurnEvent) × Logs before event inside × LogsAll inside later log

-- an actor has had a turn at a node: it is logged as won, and then as given back, and nothing else
-- of its own is logged since
pub record HasHadTurn (actor node : ℕ) (before log : List TurnEvent) : Type 0 where
  pub inside : List TurnEvent
  pub won : Logs before (Won actor node) inside
  pub given_back : Logs inside (GivenBack actor node) log
