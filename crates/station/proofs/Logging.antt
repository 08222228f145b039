-- The log of turns, as it goes on by one event more.
use Rattle.std.proofs.Common.{◌≡◌, ◌≢◌, ◌⊎◌, ℕ, suc, ◌≤◌, eq-eqb, ne_eqb, List, [], ◌∷◌, ◌++◌, get_or, length, drop, set, refl, sym, ap, ◌∙◌, inl, arith, append_assoc, length-append}
use Rattle.std.proofs.lemmas.List.{append-nil}
use Rattle.std.proofs.lemmas.List.Sums.{fold-append}
use Rattle.atomic_table.specs.Table.{State}
use Rattle.atomic_table.proofs.Lists.{at_set}
use Rattle.entry_word.specs.declared.visit.Act.{Act}
use Rattle.station.specs.Rule.{KeepsRule, IsViewOf}
use Rattle.station.specs.Setup.{Setup}
use Rattle.station.specs.Turns.{HasLogged, IsInTurn, IsLog, Logs, event_actor, events_of, lock_after, lock_in, lost_in}
use Rattle.station.specs.TurnLaws.{events-append, lost-append}
use Rattle.station.specs.Views.{StandsForActor}
use Rattle.station.specs.declared.view.TurnEvent.{TurnEvent}
use Rattle.station.specs.declared.view.TurnEvent.TheVariants.{Won, GivenBack}
use Rattle.station.specs.declared.view.View.{View}

module _ {A : Type 0} where
  -- what stands somewhere in a list with one item more is that item, or stood there before
  pub last_or_there : (xs : List A) (x : A) (earlier : List A) (y : A) (later : List A)
      → xs ++ x ∷ [] ≡ earlier ++ y ∷ later
      → ((earlier ≡ xs) × (y ≡ x)) ⊎ ((rest : List A) × (xs ≡ earlier ++ y ∷ rest))
  last_or_there [] x [] y later e = inl (refl, sym (ap (λ (l : List A). get_or l 0 x) e))
  last_or_there [] x (a ∷ earlier) y later e = grind (arith, length-append earlier (y ∷ later))
  last_or_there (b ∷ xs) x [] y later e = grind arith
  last_or_there (b ∷ xs) x (a ∷ earlier) y later e = grind (arith, last_or_there xs x earlier y later (ap (drop 1) e))

pub log-nil : IsLog []
log-nil earlier event later e = absurd (omega (arith, ap length e, length-append earlier (event ∷ later)))

pub log-more : {log : List TurnEvent} (event : TurnEvent) → IsLog log → IsInTurn log event → IsLog (log ++ event ∷ [])
log-more {log} event old new earlier other later e = grind (arith, last_or_there)

-- the lock words after one event more
pub lock-push : (log : List TurnEvent) (event : TurnEvent) (node : ℕ)
    → lock_in (log ++ event ∷ []) node ≡ lock_after node (lock_in log node) event
lock-push log event node = fold-append (lock_after node) 0 log (event ∷ [])

pub lock-won : (log : List TurnEvent) (actor node : ℕ) → lock_in (log ++ Won actor node ∷ []) node ≡ suc actor
lock-won log actor node = rw (lock-push log (Won actor node) node, eq-eqb node node refl)

pub lock-won_else : (log : List TurnEvent) (actor x y : ℕ) → x ≢ y
    → lock_in (log ++ Won actor x ∷ []) y ≡ lock_in log y
lock-won_else log actor x y ne = rw (lock-push log (Won actor x) y, ne_eqb x y ne)

pub lock-back : (log : List TurnEvent) (actor node : ℕ) → lock_in (log ++ GivenBack actor node ∷ []) node ≡ 0
lock-back log actor node = rw (lock-push log (GivenBack actor node) node, eq-eqb node node refl)

pub lock-back_else : (log : List TurnEvent) (actor x y : ℕ) → x ≢ y
    → lock_in (log ++ GivenBack actor x ∷ []) y ≡ lock_in log y
lock-back_else log actor x y ne = rw (lock-push log (GivenBack actor x) y, ne_eqb x y ne)

-- the events of an actor after one more
by-mine : {actor : ℕ} (log : List TurnEvent) (event : TurnEvent) → event_actor event ≡ actor
    → events_of actor (log ++ event ∷ []) ≡ events_of actor log ++ event ∷ []
by-mine {actor} log event mine = rw (events-append actor log (event ∷ []), eq-eqb (event_actor event) actor mine)

-- all events of its actors are among those that a view has logged
pub own-all : {log : List TurnEvent} {view : View} (actor : ℕ) → HasLogged log view → StandsForActor view actor
    → events_of actor log ≡ events_of actor view.turns
own-all {view} actor has st = grind (arith, events-append, append-nil)

-- a view that has logged the same, and lost the same, and stands for no others
pub logged-same : {log : List TurnEvent} {v : View} (w : View) → w.turns ≡ v.turns → w.lost ≡ v.lost
    → ((actor : ℕ) → StandsForActor w actor → StandsForActor v actor) → HasLogged log v → HasLogged log w
logged-same w turns lost stands has = grind arith

-- after an event of another
logged-other : {log : List TurnEvent} (event : TurnEvent) {view : View}
    → ((actor : ℕ) → StandsForActor view actor → event_actor event ≢ actor) → HasLogged log view
    → HasLogged (log ++ event ∷ []) view
logged-other event {view} away has = grind (arith, append_assoc, events-append, append-nil)

-- after an event of its own
logged-mine : {log : List TurnEvent} (event : TurnEvent) {v : View} (w : View) → event_actor event ≡ v.low
    → v.high ≡ suc v.low → w.low ≡ v.low → w.high ≡ v.high → w.turns ≡ log ++ event ∷ []
    → w.lost ≡ v.lost ++ lost_in (event ∷ []) → HasLogged log v → HasLogged (log ++ event ∷ []) w
logged-mine {log} event {v} w mine alone low high turns lost has = grind (
  arith,
  own-all (v.low) has ((omega arith, omega (arith, alone))),
  lost-append (events_of (v.low) log) (event ∷ []),
  by-mine log event mine,
  append-nil (log ++ event ∷ []),
)

-- the log after a step of a seat j, which has the view w then
pub record LogGoes (setup : Setup) (s : State Act View) (o : KeepsRule setup s) (j : ℕ) (w : View)
    (log : List TurnEvent) : Type 0 where
  pub in_turn : IsLog log
  pub strangers : (actor : ℕ) → setup.actors ≤ actor → events_of actor log ≡ []
  pub mine : HasLogged log w
  pub others : (k : ℕ) (u : View) → k ≢ j → IsViewOf s.views k u → HasLogged log u

-- a step that does nothing at a lock
pub log-stays : {setup : Setup} {s : State Act View} (o : KeepsRule setup s) (j : ℕ) (v w : View) → IsViewOf s.views j v
    → w.turns ≡ v.turns → w.lost ≡ v.lost → w.low ≡ v.low → w.high ≡ v.high → LogGoes setup s o j w o.turns
log-stays o j v w me turns lost low high = grind (arith, o.logged j v me, logged-same)

-- a step at a lock
pub log-goes : {setup : Setup} {s : State Act View} (o : KeepsRule setup s) (j : ℕ) (v w : View) (event : TurnEvent)
    → IsViewOf s.views j v → v.high ≡ suc v.low → event_actor event ≡ v.low → IsInTurn o.turns event → w.low ≡ v.low
    → w.high ≡ v.high → w.turns ≡ o.turns ++ event ∷ [] → w.lost ≡ v.lost ++ lost_in (event ∷ [])
    → LogGoes setup s o j w (o.turns ++ event ∷ [])
log-goes o j v w event me alone mine may low high turns lost =
    let its = (o.views j v me).owner_is v.low (omega arith, omega (arith, alone)) in
    record {
      in_turn = log-more event o.in_turn may;
      strangers = grind (arith, events-append, append-nil);
      mine = logged-mine event w mine alone low high turns lost (o.logged j v me);
      others = λ k u ne at. logged-other event (λ actor st e. ne
          (sym ((o.views k u at).owner_is actor st).0 ∙ (ap o.owner (sym e ∙ mine) ∙ its.0))) (o.logged k u at);
    }

-- what such a step tells
pub logs : {setup : Setup} {s : State Act View} (o : KeepsRule setup s) (j : ℕ) (v : View) (event : TurnEvent)
    → IsViewOf s.views j v → v.high ≡ suc v.low → event_actor event ≡ v.low → IsInTurn o.turns event
    → Logs v.turns event (o.turns ++ event ∷ [])
logs o j v event me alone mine may =
    let has = o.logged j v me in
    record {
      later = has.later;
      by_others = grind arith;
      goes_on = ap (λ l. l ++ event ∷ []) has.goes_on;
      in_turn = log-more event o.in_turn may;
    }

-- so have all views
pub all-logged : {setup : Setup} {s : State Act View} {o : KeepsRule setup s} {j : ℕ} {w : View} {log : List TurnEvent}
    → LogGoes setup s o j w log → (seat : ℕ) (view : View) → IsViewOf (set s.views j w) seat view → HasLogged log view
all-logged {s} {j} {w} {log} g seat view there = grind (arith, at_set)
