-- A worker serves an actor of an input on a tracker: each visit that its pass has made was the
-- actor's next one, in the history before its ticket, and the pass has room for all that are left.
-- A play adds such visits at the end and nothing else. It wins one turn for each; each turn that it
-- loses is counted, and is lost at the node of the very visit that comes next, made by this play or
-- not.
-- Key laws: `Worker::new` (a fresh pass of an actor), `Worker::play` (by its clauses `played` and
-- `closed`).
use Rattle.std.specs.Prelude.{◌≡◌, ◌≢◌, ℕ, ◌+◌, ◌^◌, ◌<◌, ◌≤◌, List, [], ◌∷◌, ◌++◌, Option, Some, None, length, map}
use Rattle.distances.specs.Table.{DistanceTable}
use Rattle.entry_word.specs.declared.visit.Visit.{Visit}
use Rattle.directory.specs.Histories.{IsFront, own, puts_to}
use Rattle.directory.specs.Keys.{act_node}
use Rattle.directory.specs.Settings.{Setting}
use Rattle.net_reader.specs.Input.{Contents}
use Rattle.region_plan.specs.Plan.{PlanData}
use Rattle.scripts.specs.Scripts.{scripts_of}
use Rattle.station.specs.Passes.{IsPassOf, PassData, TrackerData, actor_of, fresh_view}
use Rattle.station.specs.Setup.{Setup, setting_in}
use Rattle.station.specs.Turns.{lost_in}
use Rattle.station.specs.Visits.{HasLoggedMore, IsSamePass}
use Rattle.station.specs.declared.view.TurnEvent.{TurnEvent}
use Rattle.station.specs.declared.view.TurnEvent.TheVariants.{GivenBack, Lost, Won}
use Rattle.runner.specs.Playing.{IsPlayedBy, next_of}
use Rattle.runner.specs.Roles.{HasBegunNone, IsPrepared, IsRole, IsSetFor}
use Rattle.runner.specs.declared.worker.Attempt.{Attempt}
use Rattle.runner.specs.declared.worker.Attempt.TheVariants.{Made, Held, Shut}
use Rattle.runner.specs.declared.worker.Played.{Played}
use Rattle.runner.specs.declared.worker.Played.TheVariants.{Finished, Stopped}
use Rattle.runner.specs.declared.worker.Worker.{Worker}

-- a worker serves an actor of an input on a tracker
pub record IsWorkerOf (input : Contents) (tracker : TrackerData) (worker : Worker) : Type 0 where
  pub of : IsPassOf tracker worker.pass
  pub outside : worker.pass.view.inside ≡ None
  pub known : actor_of worker.pass < length input.scripts
  pub played : IsPlayedBy (setting_in tracker.setup) (scripts_of input) (actor_of worker.pass)
      worker.pass.view.seen
  pub made : worker.made ≡ length (own (actor_of worker.pass) worker.pass.view.seen)
  pub few : worker.made + worker.pass.spare ≤ 2 ^ 56
  pub role : IsRole input tracker.setup worker.pass.view worker.pass.spare worker.role

-- a pass may serve its actor: it has made no visit, is in no node, and has room for no more visits
-- than a pass may have
pub record MayServe (input : Contents) (plan : PlanData) (pass : PassData) : Type 0 where
  pub set : IsSetFor input pass.view.setup plan plan.distances
  pub outside : pass.view.inside ≡ None
  pub known : actor_of pass < length input.scripts
  pub none : own (actor_of pass) pass.view.seen ≡ []
  pub bare : puts_to (actor_of pass) pass.view.seen ≡ []
  pub few : pass.spare ≤ 2 ^ 56

-- a worker that has done nothing: its pass has the view that the actor has of a new tracker, so
-- that it has made no visit and lost no turn, and no call of the script is begun
pub record IsFreshWorker (tracker : TrackerData) (actor : ℕ) (worker : Worker) : Type 0 where
  pub view : worker.pass.view ≡ fresh_view tracker.setup actor
  pub made : worker.made ≡ 0
  pub role : HasBegunNone worker.role

-- a worker may play
pub record MayPlay (input : Contents) (tracker : TrackerData) (plan : PlanData)
    (distances : DistanceTable) (worker : Worker) : Type 0 where
  pub set : IsSetFor input tracker.setup plan distances
  pub worker_is : IsWorkerOf input tracker worker

-- a worker may try its next visit
pub record MayTry (input : Contents) (tracker : TrackerData) (plan : PlanData)
    (distances : DistanceTable) (worker : Worker) : Type 0 where
  pub may : MayPlay input tracker plan distances worker
  pub prepared : IsPrepared input tracker.setup worker.pass.view worker.role
  pub left : next_of input tracker.setup worker.pass.view ≢ None

-- these are turns that an actor lost at a node, or none, whatever lock words it read there
abbrev pub AreLostAt : ℕ → ℕ → List TurnEvent → Type 0
AreLostAt actor node events =
    (words : List ℕ) × (events ≡ map (λ word. Lost actor node word) words)

-- it lost them at the node of its next visit; where it has no next visit, there are none
abbrev pub AreLostBefore : Setting → ℕ → Option Visit → List TurnEvent → Type 0
AreLostBefore setting actor None events = events ≡ []
AreLostBefore setting actor (Some visit) events =
    AreLostAt actor (act_node setting visit.act) events

-- the turns of an actor at these visits, in their order: before each it may have lost turns, at the
-- visit's node and nowhere else, and then it has won one there and given it back; and behind them
-- all it may have lost turns at the node of the visit that is next
abbrev pub HaveTurns : Setting → ℕ → Option Visit → List Visit → List TurnEvent → Type 0
HaveTurns setting actor next [] events = AreLostBefore setting actor next events
HaveTurns setting actor next (visit ∷ later) events =
    (missed : List TurnEvent) × (rest : List TurnEvent)
    × AreLostAt actor (act_node setting visit.act) missed
    × (events ≡ missed ++ Won actor (act_node setting visit.act)
    ∷ GivenBack actor (act_node setting visit.act) ∷ rest)
    × HaveTurns setting actor next later rest

-- a worker has gone on: it serves its actor as before, and what its pass has seen goes on from what
-- it had seen; each visit that it has made has used one of its spare; and all that it has logged
-- more are the turns of its actor at the visits that it has made, and at the one that is next; so
-- many of them were lost
pub record HasGoneOn (input : Contents) (tracker : TrackerData) (old new : Worker)
    (held : ℕ) : Type 0 where
  pub worker : IsWorkerOf input tracker new
  pub begins : IsFront old.pass.view.seen new.pass.view.seen
  pub same : IsSamePass old.pass new.pass
  pub spare : new.pass.spare + new.made ≡ old.pass.spare + old.made
  pub visits : List Visit
  pub made : own (actor_of old.pass) new.pass.view.seen
      ≡ own (actor_of old.pass) old.pass.view.seen ++ visits
  pub events : List TurnEvent
  pub turns : HaveTurns (setting_in tracker.setup) (actor_of old.pass)
      (next_of input tracker.setup new.pass.view) visits events
  pub logged : HasLoggedMore old.pass events new.pass
  pub count : length (lost_in events) ≡ held

-- what came of one try: a visit is made, or a turn is lost, or nothing has changed
abbrev pub HasAttempted : Contents → TrackerData → Worker → Worker → Attempt → Type 0
HasAttempted input tracker old new Made =
    HasGoneOn input tracker old new 0 × (new.made ≡ old.made + 1)
HasAttempted input tracker old new Held =
    HasGoneOn input tracker old new 1 × (new.made ≡ old.made)
HasAttempted input tracker old new Shut = new ≡ old

-- what an answer says of a play that has lost so many turns: no visit is left, and each lost turn
-- was a try; or one is left, and the tries are used up
abbrev pub Says : Contents → Setup → ℕ → ℕ → PassData → Played → Type 0
Says input setup tries lost pass Finished =
    (next_of input setup pass.view ≡ None) × (lost ≤ tries)
Says input setup tries lost pass (Stopped held kept) =
    (next_of input setup pass.view ≢ None) × (held + kept ≡ tries) × (lost ≡ held)

-- no gate was closed
abbrev pub KeptNone : Played → Type 0
KeptNone Finished = Unit {0}
KeptNone (Stopped held kept) = kept ≡ 0

-- no turn was lost
abbrev pub HeldNone : Played → Type 0
HeldNone Finished = Unit {0}
HeldNone (Stopped held kept) = held ≡ 0

-- a worker has played at a shut gate: no turn is taken, and no visit made
pub record HasStayed (old new : Worker) (played : Played) : Type 0 where
  pub pass : new.pass ≡ old.pass
  pub made : new.made ≡ old.made
  pub held : HeldNone played

-- a worker has played
pub record HasPlayed (input : Contents) (tracker : TrackerData) (tries : ℕ) (old new : Worker)
    (played : Played) : Type 0 where
  pub lost : ℕ
  pub gone : HasGoneOn input tracker old new lost
  pub says : Says input tracker.setup tries lost new.pass played
