-- An event that a view has logged during a call: the step that brought it, and how the locks were.
use Rattle.std.proofs.Common.{◌≡◌, ◌≢◌, ◌⊎◌, ℕ, zero, suc, ◌-◌, ◌<◌, ◌≤◌, List, [], ◌∷◌, ◌++◌, length, drop, refl, sym, ap, ◌∙◌, subst, inl, inr, ⊎_elim, arith, append_assoc, length-append, Some}
use Rattle.std.specs.Prelude.{slice_index}
use Rattle.std.proofs.lemmas.List.{append-nil}
use mathlib.Core.Logic.{dite}
use mathlib.Core.Option.{some-injective}
use native.Mathlib.Decide.{ℕ_discrete}
use Rattle.atomic_table.specs.Table.{State}
use Rattle.entry_word.specs.declared.visit.Act.{Act}
use Rattle.station.specs.Moments.{AreOthersOut, ComesAt, EventsComeWithinCalls, GoesThrough, IsAnothers, IsLoggedAt, IsMoment, IsStepBeside, IsStepOf}
use Rattle.station.specs.Rule.{KeepsRule, IsViewOf}
use Rattle.station.specs.Setup.{Setup, nodes_in, lock_word}
use Rattle.station.specs.Turns.{IsInTurn, IsLog, event_actor, events_of, lock_in}
use Rattle.station.specs.Views.{StandsForActor}
use Rattle.station.specs.declared.view.TurnEvent.{TurnEvent}
use Rattle.station.specs.declared.view.TurnEvent.TheVariants.{Won, GivenBack, Lost}
use Rattle.station.specs.declared.view.View.{View}
use Rattle.std.proofs.lemmas.Bool.Decides.{nat_tests}
use Rattle.station.proofs.Logging.{lock-push}
use Rattle.station.proofs.Steps.{same_view}
use Rattle.station.proofs.Timing.{actor-below, its_seat, other_seat, some-mine}

-- two events are the same, or not
same_event : (x y : TurnEvent) → (x ≡ y) ⊎ (x ≢ y)
same_event (Won actor node) (Won other at) = grind arith
same_event (GivenBack actor node) (GivenBack other at) = grind arith
same_event (Lost actor node word) (Lost other at found) = grind arith
same_event x y = inr (λ q. cc)

-- an event stands in a log behind these, or doesn't
logged_or : (log earlier : List TurnEvent) (event : TurnEvent)
    → IsLoggedAt earlier event log ⊎ (IsLoggedAt earlier event log → ⊥)
logged_or [] earlier event = inr (λ t. absurd (omega (arith, ap length t.1, length-append earlier (event ∷ t.0))))
logged_or (x ∷ log) [] event = grind (arith, same_event x event)
logged_or (x ∷ log) (e ∷ earlier) event = grind (arith, logged_or log earlier event, same_event x e)

-- all events of a log are one actor's
abbrev AreOf : ℕ → List TurnEvent → Type 0
AreOf actor [] = Unit {0}
AreOf actor (event ∷ later) = (event_actor event ≡ actor) × AreOf actor later

-- one event of a log is another's
record HasOthers (actor : ℕ) (log : List TurnEvent) : Type 0 where
  pub front : List TurnEvent
  pub event : TurnEvent
  pub back : List TurnEvent
  pub is : log ≡ front ++ event ∷ back
  pub other : event_actor event ≢ actor

all-or-other : (actor : ℕ) (log : List TurnEvent) → AreOf actor log ⊎ HasOthers actor log
all-or-other actor [] = inl tt
all-or-other actor (event ∷ later) = dite (ℕ_discrete (event_actor event) actor)
    (λ mine. ⊎_elim
    (λ (all : AreOf actor later). inl (mine, all))
    (λ (o : HasOthers actor later). inr (record {
      front = event ∷ o.front;
      event = o.event;
      back = o.back;
      is = λ i. event ∷ o.is i;
      other = o.other;
    }))
    (all-or-other actor later))
    (λ ne. inr (record { front = []; event = event; back = later; is = refl; other = ne }))

-- a front with no event of an actor behind it has each that the log has
front-has : {actor : ℕ} (front rest earlier : List TurnEvent) (event : TurnEvent) (later : List TurnEvent)
    → event_actor event ≡ actor → events_of actor rest ≡ [] → front ++ rest ≡ earlier ++ event ∷ later
    → IsLoggedAt earlier event front
front-has {actor} [] rest earlier event later mine none is = grind (arith, some-mine earlier event later mine)
front-has (x ∷ front) rest [] event later mine none is = grind (arith, event, front)
front-has (x ∷ front) rest (e ∷ earlier) event later mine none is =
    grind (arith, front-has front rest earlier event later mine none (ap (drop 1) is))

-- a lock word names another actor
abbrev IsForeign : ℕ → ℕ → Type 0
IsForeign actor word = (word ≢ 0) × (word ≢ suc actor)

-- an actor's event leaves a turn that is another's before it, or behind it
event-keeps : {actor : ℕ} (node : ℕ) (log : List TurnEvent) (event : TurnEvent) → event_actor event ≡ actor
    → IsInTurn log event
    → IsForeign actor (lock_in log node) ⊎ IsForeign actor (lock_in (log ++ event ∷ []) node)
    → lock_in (log ++ event ∷ []) node ≡ lock_in log node
event-keeps node log (Lost a at word) mine may foreign = lock-push log (Lost a at word) node
event-keeps node log event mine may foreign = grind (arith, nat_tests, lock-push log event node)

-- so do all its events
events-keep : (actor node : ℕ) (log more : List TurnEvent) → AreOf actor more → IsLog (log ++ more)
    → IsForeign actor (lock_in log node) ⊎ IsForeign actor (lock_in (log ++ more) node)
    → lock_in (log ++ more) node ≡ lock_in log node
events-keep actor node log [] of valid foreign = ap (λ l. lock_in l node) (append-nil log)
events-keep actor node log (event ∷ later) of valid foreign =
    let split : (log ++ event ∷ []) ++ later ≡ log ++ event ∷ later = append_assoc log (event ∷ []) later in
    let one = event-keeps node log event of.0 (valid log event later refl) in
    let rest = events-keep actor node (log ++ event ∷ []) later of.1 (rw split valid) in
    rw (← split) (grind arith)

module _ (setup : Setup) (old new : State Act View) (seat : ℕ) (was : KeepsRule setup old) (is : KeepsRule setup new)
    (s : IsStepOf seat old new) where
  -- the seat of another actor is another
  apart : (k : ℕ) (view : View) (actor : ℕ) → IsViewOf new.views k view → StandsForActor view actor
      → actor ≢ s.before.low → k ≢ seat
  apart k view actor at st ne e = grind (arith, its_seat s, same_view new.views (its_seat s) at e)

  -- an event with another's behind it was there before
  was_there : (earlier : List TurnEvent) (event : TurnEvent) (later : List TurnEvent)
      → event_actor event ≡ s.before.low → is.turns ≡ earlier ++ event ∷ later → HasOthers s.before.low later
      → IsLoggedAt earlier event s.before.turns
  was_there earlier event later mine log o =
      let b = event_actor o.event in
      let front = earlier ++ event ∷ o.front in
      let whole : is.turns ≡ front ++ o.event ∷ o.back = grind (arith, append_assoc) in
      let its = is.actors b (actor-below is front o.event o.back whole) in
      let k = is.owner b in
      let before = sym (other_seat s k (apart k its.0 b its.1 its.2 o.other)) ∙ its.1 in
      let has = is.logged k its.0 its.1 in
      let had = was.logged k its.0 before in
      let me = was.logged seat s.before s.was in
      let there = front-has its.0.turns has.later front o.event o.back refl (has.by_others b its.2)
      (sym has.goes_on ∙ whole) in
      let then : was.turns ≡ earlier ++ event ∷ (o.front ++ ((o.event ∷ there.0) ++ had.later)) = had.goes_on
      ∙ (grind (arith, append_assoc)) in
      front-has s.before.turns me.later earlier event (o.front ++ ((o.event ∷ there.0) ++ had.later)) mine
      (me.by_others s.before.low (omega arith, omega (arith, s.alone))) (sym me.goes_on ∙ then)

  -- the word of a lock names the actor inside the node, and did so behind these, if all since are its own
  named : (earlier more : List TurnEvent) → is.turns ≡ earlier ++ more → AreOf s.before.low more
      → (k : ℕ) (view : View) (node : ℕ) → IsViewOf old.views k view → view.inside ≡ Some node
      → view.low ≢ s.before.low → lock_in earlier node ≡ suc view.low
  named earlier more log own k view node at inside ne =
      let away : k ≢ seat = λ e. ne (ap (λ (u : View). u.low) (same_view old.views s.was at e)) in
      let there = (is.views k view (other_seat s k away ∙ at)).inside node inside in
      let word : lock_in (earlier ++ more) node ≡ suc view.low = grind arith in
      let foreign : IsForeign s.before.low (lock_in (earlier ++ more) node) = grind arith in
      sym (events-keep s.before.low node earlier more own (subst IsLog log is.in_turn) (inr foreign)) ∙ word

  others_out : (earlier more : List TurnEvent) (actor node : ℕ) → is.turns ≡ earlier ++ more
      → AreOf s.before.low more → actor ≡ s.before.low → (lock_in earlier node ≢ 0 → lock_in earlier node ≡ suc actor)
      → AreOthersOut old actor node
  others_out earlier more actor node log own mine may k view at inside = grind (arith, ℕ_discrete, named)

  anothers : (earlier more : List TurnEvent) (actor node word : ℕ) → is.turns ≡ earlier ++ more
      → AreOf s.before.low more → actor ≡ s.before.low → IsInTurn earlier (Lost actor node word)
      → node < nodes_in setup → IsAnothers old actor node word
  anothers earlier more actor node word log own mine may known =
      let foreign : IsForeign s.before.low (lock_in earlier node) = grind arith in
      let here : slice_index new.words (lock_word node) ≡ word = grind (arith, events-keep) in
      let b = word - 1 in
      let is_suc : word ≡ suc b = omega (arith, may.1) in
      let held = is.locks node b known (here ∙ is_suc) in
      let k = is.owner b in
      let away : k ≢ seat = grind (arith, same_view, its_seat s) in
      let before = sym (other_seat s k away) ∙ held.1 in
      let named_then : suc held.0.low ≡ word = ap suc held.3 ∙ sym is_suc in (
        may.2,
        ((was.views k held.0 before).inside node held.2).lock ∙ named_then,
        k,
        held.0,
        before,
        held.2,
        named_then,
      )

  -- an event behind which all are the seat's own: the locks before the step are as it says
  moment : (earlier : List TurnEvent) (event : TurnEvent) (later : List TurnEvent)
      → event_actor event ≡ s.before.low → is.turns ≡ earlier ++ event ∷ later → AreOf s.before.low later
      → IsMoment setup old event
  moment earlier (Won actor node) later mine log own =
      others_out earlier (Won actor node ∷ later) actor node log (mine, own) mine
      (λ ne. absurd (ne (is.in_turn earlier (Won actor node) later log)))
  moment earlier (GivenBack actor node) later mine log own =
      others_out earlier (GivenBack actor node ∷ later) actor node log (mine, own) mine
      (λ ne. is.in_turn earlier (GivenBack actor node) later log)
  moment earlier (Lost actor node word) later mine log own =
      anothers earlier (Lost actor node word ∷ later) actor node word log (mine, own) mine
      (is.in_turn earlier (Lost actor node word) later log)

  -- an event that the view has after the step came at the step, or was there before
  came_or_was : (earlier : List TurnEvent) (event : TurnEvent) → event_actor event ≡ s.before.low
      → IsLoggedAt earlier event s.after.turns
      → ComesAt setup seat earlier event old new ⊎ IsLoggedAt earlier event s.before.turns
  came_or_was earlier event mine there = ⊎_elim
      (λ (t : IsLoggedAt earlier event s.before.turns). inr t)
      (λ (absent : IsLoggedAt earlier event s.before.turns → ⊥).
      let has = is.logged seat s.after (its_seat s) in
      let log : is.turns ≡ earlier ++ event ∷ (there.0 ++ has.later) = grind (arith, append_assoc) in
      ⊎_elim
      (λ (own : AreOf s.before.low (there.0 ++ has.later)). inl (record {
        own = s;
        absent = absent;
        there = there;
        moment = moment earlier event (there.0 ++ has.later) mine log own;
      }))
      (λ (o : HasOthers s.before.low (there.0 ++ has.later)).
      inr (was_there earlier event (there.0 ++ has.later) mine log o))
      (all-or-other s.before.low (there.0 ++ has.later)))
      (logged_or s.before.turns earlier event)

-- what is asked of a call
abbrev Came : Setup → ℕ → ℕ → (ℕ → State Act View) → List TurnEvent → TurnEvent → Type 0
Came setup seat count states earlier event = (step : ℕ) × (step < count)
    × ComesAt setup seat earlier event (states step) (states (suc step))

come_on : {setup : Setup} {seat : ℕ} {states : ℕ → State Act View} (before : View) (earlier : List TurnEvent)
    (event : TurnEvent) → IsViewOf (states 0).views seat before → length before.turns ≤ length earlier
    → (count : ℕ) (after : View) → GoesThrough setup seat count states → IsViewOf (states count).views seat after
    → event_actor event ≡ after.low → IsLoggedAt earlier event after.turns → Came setup seat count states earlier event
come_on before earlier event first short zero after through there mine logged =
    grind (arith, some-injective, event, length-append)
come_on {setup} {seat} {states} before earlier event first short (suc count) after through there mine logged = ⊎_elim
    (λ (s : IsStepOf seat (states count) (states (suc count))).
    let was = through.keeps count (omega arith) in
    let is = through.keeps (suc count) (omega arith) in
    let same : after ≡ s.after = some-injective after s.after (sym there ∙ its_seat s) in
    let low : event_actor event ≡ s.before.low = mine ∙ (ap (λ (u : View). u.low) same ∙ s.low) in
    ⊎_elim
    (λ (comes : ComesAt setup seat earlier event (states count) (states (suc count))). (count, omega arith, comes))
    (λ (t : IsLoggedAt earlier event s.before.turns).
    further (come_on before earlier event first short count s.before less s.was low t))
    (came_or_was setup (states count) (states (suc count)) seat was is s earlier event low
    (subst (λ (u : View). IsLoggedAt earlier event u.turns) same logged)))
    (λ (beside : IsStepBeside seat (states count) (states (suc count))).
    further (come_on before earlier event first short count after less (beside after there) mine logged))
    (through.steps count (omega arith))
  where
    less : GoesThrough setup seat count states
    less = grind arith

    further : Came setup seat count states earlier event → Came setup seat (suc count) states earlier event
    further t = (t.0, omega (arith, t.1), t.2)

pub come_within : EventsComeWithinCalls
come_within setup seat count states before after earlier event through first last mine short logged =
    come_on before earlier event first short count after through last mine logged
