-- What a machine stands for: a history in which each visit was its actor's next one. Its cells hold
-- what the history leaves; each subscriber and each caller is as far as the history says; it keeps
-- the actor of each ticket; and after each turn its lists have the room that they were made with,
-- just what may come into them.
-- Key laws: `Machine::new` (it stands for no visits), `turn` (for a turn more), `turns` (for so
-- many turns more), `finish` (for all visits) and `outcome`, by their clauses.
use Rattle.std.specs.Prelude.{◌≡◌, ℕ, ◌+◌, ◌<◌, [], None, length, map, replicate, slice_index_or, vec_capacity}
use Rattle.directory.specs.Settings.{Setting}
use Rattle.directory.specs.Histories.{History}
use Rattle.directory.specs.Orders.{Scripts, after_turns, next}
use Rattle.net_reader.specs.Input.{Contents}
use Rattle.net_reader.specs.Seen.{seen_input}
use Rattle.net_reader.specs.Valid.{count_calls}
use Rattle.machine.specs.declared.caller.Caller.{Caller}
use Rattle.machine.specs.declared.machine.Machine.{Machine}
use Rattle.machine.specs.declared.subscriber.Subscriber.{Subscriber}
use Rattle.scripts.specs.Scripts.{most_visits, scripts_of}
use Rattle.machine.specs.Stands.{BelongTogether, Sees, setting_over}
use Rattle.visit_log.specs.Homes.{AreHomes}
use Rattle.visit_log.specs.Routes.{AreRoutes}
use Rattle.machine.specs.Callers.{IsCaller}
use Rattle.machine.specs.Subscribers.{IsSubscriber}

-- the input of a machine
abbrev pub input_at : Machine → Contents
input_at machine = seen_input machine.input.now

-- the setting of a machine
abbrev pub setting_at : Machine → Setting
setting_at machine = setting_over (input_at machine) machine.plan.now

-- the scripts of a machine
abbrev pub scripts_at : Machine → Scripts
scripts_at machine = scripts_of (input_at machine)

-- a machine stands for a history; its lists have room for just the visits that the scripts may
-- have, for the lines of all calls, and for the actors
pub record HasHistory (machine : Machine) (history : History) : Type 0 where
  pub together : BelongTogether (input_at machine) machine.plan.now machine.distances.now
  pub homes : AreHomes machine.plan.now machine.homes
  pub routes : AreRoutes machine.plan.now machine.routes
  pub sees : Sees (input_at machine) machine.plan.now machine.cells history
  pub order : machine.order.items ≡ map (λ visit. visit.actor) history
  pub room : vec_capacity machine.order
      ≡ most_visits (setting_at machine) (input_at machine).scripts
  pub subscribers_count : length machine.subscribers.items ≡ length (input_at machine).homes
  pub callers_count : length machine.callers.items ≡ (input_at machine).callers
  pub subscribers_room : vec_capacity machine.subscribers ≡ length (input_at machine).homes
  pub callers_room : vec_capacity machine.callers ≡ (input_at machine).callers
  pub subscribers : (s : ℕ) (d : Subscriber) → s < length (input_at machine).homes
      → IsSubscriber (input_at machine) machine.plan.now history s
      (slice_index_or machine.subscribers.items s d)
  pub callers : (c : ℕ) (d : Caller) → c < (input_at machine).callers
      → IsCaller (input_at machine) machine.plan.now history
      (length (input_at machine).homes + c) (slice_index_or machine.callers.items c d)
  pub calls : machine.calls.items ≡ []
  pub total : vec_capacity machine.calls ≡ count_calls (input_at machine).scripts

-- so many turns of an actor made as many visits
pub record HasMade (old new : Machine) (history : History) (actor count : ℕ) : Type 0 where
  pub stands : HasHistory new
      (after_turns (setting_at old) (scripts_at old) history (replicate count actor))
  pub made : length (after_turns (setting_at old) (scripts_at old) history (replicate count actor))
      ≡ length history + count

-- and where they made none, none is left, and the machine is as it was
abbrev pub HasStridden : Machine → Machine → History → ℕ → ℕ → Type 0
HasStridden old new history actor count =
    HasMade old new history actor count
    × (count ≡ 0
    → (next (setting_at old) (scripts_at old) history actor ≡ None) × (new ≡ old))

-- a machine keeps its input, its plan, its distances, the room for its order, its homes, its routes
-- and its list of the lines of calls
abbrev pub IsSame : Machine → Machine → Type 0
IsSame old new =
    (new.input.now ≡ old.input.now) × (new.plan.now ≡ old.plan.now)
    × (new.distances.now ≡ old.distances.now) × (vec_capacity new.order ≡ vec_capacity old.order)
    × (new.homes ≡ old.homes) × (new.routes ≡ old.routes) × (new.calls ≡ old.calls)
