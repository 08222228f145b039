-- What the two kinds of worker keep beside their pass: a subscriber its handset, and how many steps
-- of its script it has begun; a caller the walk of the find that it is at, and how many finds are
-- done. Each is as far as its pass has seen, and the pass has room for what is left.
-- Key laws: `Mover::put` and `Finder::look`, by their clauses (the next visit is made, or one turn
-- is lost).
use Rattle.std.specs.Prelude.{◌≡◌, ℕ, ◌+◌, ◌<◌, ◌≤◌, List, [], Result, None, MatchResult, length, take, drop, slice_get, slice_index_or}
use Rattle.distances.specs.Table.{DistanceTable}
use Rattle.directory.specs.Courses.{Step}
use Rattle.directory.specs.Writes.{visits}
use Rattle.directory.specs.Orders.{caller_in, finds_of, script_visits, steps_of}
use Rattle.handset.specs.StepWrites.{due}
use Rattle.machine.specs.Stands.{BelongTogether, IsWalking}
use Rattle.net_reader.specs.declared.said.Call.{Call}
use Rattle.net_reader.specs.Input.{Contents}
use Rattle.region_plan.specs.Plan.{PlanData}
use Rattle.region_plan.specs.Settings.{setting_of}
use Rattle.scripts.specs.Scripts.{scripts_of}
use Rattle.station.specs.Handsets.{IsHandsetOf}
use Rattle.station.specs.Passes.{PassData}
use Rattle.station.specs.Setup.{Setup, setting_in}
use Rattle.directory.specs.Histories.{History, own, puts_to}
use Rattle.station.specs.declared.turns.Held.{Held}
use Rattle.station.specs.declared.view.View.{View}
use Rattle.runner.specs.Playing.{HasLostNext, HasMadeNext, looks_after, next_of}
use Rattle.runner.specs.declared.finder.Finder.{Finder}
use Rattle.runner.specs.declared.mover.Mover.{Mover}
use Rattle.runner.specs.declared.role.Role.{Role}
use Rattle.runner.specs.declared.role.Role.TheVariants as roles

-- the script of an actor
abbrev pub script_in : Contents → ℕ → List Call
script_in input actor = slice_index_or input.scripts actor []

-- a tracker was made for this plan, and for the subscribers and the callers of an input to which it
-- belongs
pub record IsSetFor (input : Contents) (setup : Setup) (plan : PlanData)
    (distances : DistanceTable) : Type 0 where
  pub together : BelongTogether input plan distances
  pub plan_is : plan ≡ setup.plan
  pub homes : setup.homes ≡ input.homes
  pub actors : setup.actors ≡ length input.scripts

-- so many steps of a subscriber's script are begun, and these are its steps; all visits of its own
-- that were seen are puts, and there is room for those that are left
pub record HasBegun (input : Contents) (setup : Setup) (actor : ℕ) (seen : History) (spare : ℕ)
    (mover : Mover) (steps : List Step) : Type 0 where
  pub low : actor < length input.homes
  pub script : mover.script.items ≡ script_in input actor
  pub steps_are : steps ≡ take mover.begun (steps_of (scripts_of input) actor)
  pub few : mover.begun ≤ length (steps_of (scripts_of input) actor)
  pub alone : own actor seen ≡ puts_to actor seen
  pub room : length (script_visits (setting_in setup) (scripts_of input) actor)
      ≤ length (own actor seen) + spare

-- a subscriber's part goes with what its pass has seen
pub record IsMover (input : Contents) (setup : Setup) (view : View) (spare : ℕ)
    (mover : Mover) : Type 0 where
  pub its : IsHandsetOf setup view mover.handset
  pub begun : HasBegun input setup view.low view.seen spare mover its.steps

-- and all its steps are begun, unless one is under way
abbrev pub IsUnderWay : Contents → Setup → View → ℕ → Mover → Type 0
IsUnderWay input setup view spare mover =
    (part : IsMover input setup view spare mover)
    × (slice_get (visits (setting_in setup) mover.handset.sub part.its.steps)
    (length (puts_to view.low view.seen)) ≡ None
    → mover.begun ≡ length (steps_of (scripts_of input) view.low))

-- a caller's part goes with what its pass has seen: its walk is that of the first find that isn't
-- done, and there is room for the looks that are left
pub record IsFinder (input : Contents) (setup : Setup) (actor : ℕ) (seen : History) (spare : ℕ)
    (finder : Finder) : Type 0 where
  pub high : length input.homes ≤ actor
  pub low : actor < length input.scripts
  pub script : finder.script.items ≡ script_in input actor
  pub subs : finder.subs ≡ length input.homes
  pub walk : IsWalking setup.plan
      (caller_in (setting_in setup) (scripts_of input) seen actor).calls
      (caller_in (setting_in setup) (scripts_of input) seen actor).pursuit finder.walk
  pub left : (caller_in (setting_in setup) (scripts_of input) seen actor).calls
      ≡ drop finder.done (finds_of (setting_in setup) (scripts_of input) actor)
  pub room : looks_after (setting_in setup)
      (caller_in (setting_in setup) (scripts_of input) seen actor).calls
      (caller_in (setting_in setup) (scripts_of input) seen actor).pursuit ≤ spare

-- an actor of an input has a script over this plan
pub record MayStart (input : Contents) (plan : PlanData) (actor : ℕ) : Type 0 where
  pub together : BelongTogether input plan plan.distances
  pub known : actor < length input.scripts

-- either part
abbrev pub IsRole : Contents → Setup → View → ℕ → Role → Type 0
IsRole input setup view spare (roles.Mover mover) = IsMover input setup view spare mover
IsRole input setup view spare (roles.Finder finder) = IsFinder input setup view.low view.seen spare
    finder

-- no call of its script is begun by a subscriber, and none done by a caller
abbrev pub HasBegunNone : Role → Type 0
HasBegunNone (roles.Mover mover) = mover.begun ≡ 0
HasBegunNone (roles.Finder finder) = finder.done ≡ 0

-- a subscriber's step is begun, if one is left: the handset has the next visit
abbrev pub IsPrepared : Contents → Setup → View → Role → Type 0
IsPrepared input setup view (roles.Mover mover) =
    next_of input setup view ≡ due (setting_of setup.plan []) mover.handset
IsPrepared input setup view (roles.Finder finder) = Unit {0}

-- the next visit is made, or one turn is lost at its node
abbrev pub TriesVisit : Contents → Setup → PassData → Result (Unit {0}) Held → PassData → Type 0
TriesVisit input setup old result new =
    MatchResult result (λ _. HasMadeNext input setup old new)
    (λ held. HasLostNext input setup old held new)

-- a part is that of an actor before its first visit, of which there are no more than so many
abbrev pub IsRoleAt : Contents → PlanData → ℕ → ℕ → Role → Type 0
IsRoleAt input plan actor visits role =
    (setup : Setup) (view : View) (spare : ℕ) → IsSetFor input setup plan plan.distances
    → view.low ≡ actor → own actor view.seen ≡ [] → puts_to actor view.seen ≡ [] → visits ≤ spare
    → IsRole input setup view spare role
