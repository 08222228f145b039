-- An event comes into the log behind all that was logged before its step.
use Rattle.std.proofs.Common.{◌≡◌, ◌≢◌, ◌⊎◌, ℕ, ◌<◌, List, [], ◌∷◌, ◌++◌, get_or, length, refl, sym, ap, ◌∙◌, inl, inr, ⊎_elim, arith, append_assoc, length-append, None}
use Rattle.std.specs.List.{last_or}
use Rattle.std.specs.Prelude.{slice_index}
use Rattle.std.proofs.lemmas.List.{append-nil, append_cancel_left}
use Rattle.std.proofs.lemmas.Bool.Decides.{nat_tests}
use Rattle.directory.specs.ListLaws.{last_or-push, same_some}
use mathlib.Core.Logic.{dite}
use native.Mathlib.Decide.{ℕ_discrete, dec_le}
use lib.ListN.{get_elem?}
use Rattle.atomic_table.specs.Table.{State, stepped}
use Rattle.atomic_table.proofs.Lists.{set_here, set_else}
use Rattle.entry_word.specs.declared.visit.Act.{Act}
use Rattle.station.specs.Moments.{EventsComeNow, HasLocks, IsStepOf, LostTurnsAreRead}
use Rattle.station.specs.Rule.{KeepsRule, IsViewOf}
use Rattle.station.specs.Setup.{Setup}
use Rattle.station.specs.Turns.{HasLogged, Logs, event_actor, events_of, lock_in}
use Rattle.station.specs.TurnLaws.{events-append, events-mine}
use Rattle.station.specs.Views.{StandsForActor}
use Rattle.station.specs.declared.view.TurnEvent.{TurnEvent}
use Rattle.station.specs.declared.view.TurnEvent.TheVariants.{Lost}
use Rattle.station.specs.declared.view.View.{View}
use Rattle.station.proofs.Logging.{last_or_there, own-all}
use Rattle.station.proofs.Steps.{same_view, seat_below}

module _ {A : Type 0} where
  -- a list is empty, or has a last item
  ends : (xs : List A) → (xs ≡ []) ⊎ ((front : List A) × (last : A) × (xs ≡ front ++ last ∷ []))
  ends [] = inl refl
  ends (x ∷ xs) = inr (⊎_elim
      (λ (e : xs ≡ []). ([], x, λ i. x ∷ e i))
      (λ (t : (front : List A) × (last : A) × (xs ≡ front ++ last ∷ [])). (x ∷ t.0, t.1, λ i. x ∷ t.2 i))
      (ends xs))

  same_last : (xs : List A) (x : A) (ys : List A) (y : A) → xs ++ x ∷ [] ≡ ys ++ y ∷ [] → y ≡ x
  same_last xs x ys y e =
      same_some (sym (last_or-push None ys y) ∙ (ap (last_or None) (sym e) ∙ last_or-push None xs x))

-- where an actor has no event, neither the first is one nor a later
none-first : (actor : ℕ) (event : TurnEvent) (later : List TurnEvent) → events_of actor (event ∷ later) ≡ []
    → (event_actor event ≢ actor) × (events_of actor later ≡ [])
none-first actor event later e = grind (arith, nat_tests)

-- there is its own event in a log that has it
pub some-mine : {actor : ℕ} (earlier : List TurnEvent) (event : TurnEvent) (later : List TurnEvent)
    → event_actor event ≡ actor → length (events_of actor earlier) < length (events_of actor (earlier ++ event ∷ later))
some-mine {actor} earlier event later mine = grind (arith, events-append, events-mine, length-append)

-- who has an event in the log is one of the actors
pub actor-below : {setup : Setup} {s : State Act View} (o : KeepsRule setup s) (front : List TurnEvent)
    (event : TurnEvent) (later : List TurnEvent) → o.turns ≡ front ++ event ∷ later → event_actor event < setup.actors
actor-below o front event later is = grind (arith, some-mine front event later refl)

-- a log in which nobody has an event
nobodys : (log : List TurnEvent) → ((actor : ℕ) → events_of actor log ≡ []) → log ≡ []
nobodys [] all = refl
nobodys (event ∷ later) all = absurd ((none-first (event_actor event) event later (all (event_actor event))).0 refl)

-- a log with one event of one actor
just-one : (actor : ℕ) (log : List TurnEvent) {event : TurnEvent}
    → ((other : ℕ) → other ≢ actor → events_of other log ≡ []) → events_of actor log ≡ event ∷ [] → log ≡ event ∷ []
just-one actor [] others mine = absurd (omega (arith, ap length mine))
just-one actor (first ∷ later) {event} others mine = dite (ℕ_discrete (event_actor first) actor)
    (λ e. let is : first ∷ events_of actor later ≡ event ∷ [] = sym (events-mine actor first later e) ∙ mine in
    let same : first ≡ event = ap (λ (l : List TurnEvent). get_or l 0 first) is in
    let rest : later ≡ [] = nobodys later (λ a. grind (arith, ℕ_discrete, none-first)) in
    λ i. same i ∷ rest i)
    (λ ne. absurd ((none-first (event_actor first) first later (others (event_actor first) ne)).0 refl))

-- what a view has logged is all of a log that ends with an event of its actor
whole : {log : List TurnEvent} {view : View} (front : List TurnEvent) (last : TurnEvent) → HasLogged log view
    → StandsForActor view (event_actor last) → log ≡ front ++ last ∷ [] → log ≡ view.turns
whole {view} front last has stands is = ⊎_elim
    (λ (e : has.later ≡ []). has.goes_on ∙ (ap (λ l. view.turns ++ l) e ∙ append-nil view.turns))
    (λ (t : (rest : List TurnEvent) × (event : TurnEvent) × (has.later ≡ rest ++ event ∷ [])).
    let both : front ++ last ∷ [] ≡ (view.turns ++ t.0) ++ t.1 ∷ [] = grind (arith, append_assoc) in
    let same : t.1 ≡ last = same_last front last (view.turns ++ t.0) t.1 both in
    let none = has.by_others (event_actor last) stands in
    absurd (grind (arith, some-mine t.0 t.1 [] (ap event_actor same), t.2)))
    (ends has.later)

module _ {old new : State Act View} {seat : ℕ} (s : IsStepOf seat old new) where
  pub its_seat : IsViewOf new.views seat s.after
  its_seat = grind (arith, set_here, seat_below)

  -- another seat has the view that it had
  pub other_seat : (k : ℕ) → k ≢ seat → get_elem? new.views k ≡ get_elem? old.views k
  other_seat k ne = ap (λ (vs : List View). get_elem? vs k) s.views ∙ set_else old.views seat k s.after ne

-- a step that brings an event of its seat's own into the log
module _ (setup : Setup) (old new : State Act View) (seat : ℕ) (was : KeepsRule setup old) (is : KeepsRule setup new)
    (s : IsStepOf seat old new) (event : TurnEvent) (mine : event_actor event ≡ s.before.low)
    (logs : Logs s.before.turns event s.after.turns) where
  stands_first : StandsForActor s.before s.before.low
  stands_first = (omega arith, omega (arith, s.alone))

  stands_then : StandsForActor s.after s.before.low
  stands_then = (omega (arith, s.low), omega (arith, s.alone, s.high))

  -- the log afterwards goes on from what the view has logged
  log_then : is.turns ≡ (s.before.turns ++ logs.later) ++ event ∷ (is.logged seat s.after (its_seat s)).later
  log_then = grind (arith, is.logged seat s.after (its_seat s), its_seat, append_assoc)

  -- the log before is a front of the log afterwards
  log_first : (rest : List TurnEvent) × (is.turns ≡ was.turns ++ rest)
  log_first = ⊎_elim
      (λ (e : was.turns ≡ []). (is.turns, ap (λ l. l ++ is.turns) (sym e)))
      (λ (t : (front : List TurnEvent) × (last : TurnEvent) × (was.turns ≡ front ++ last ∷ [])).
      let actor = event_actor t.1 in
      let its = was.actors actor (actor-below was t.0 t.1 [] t.2) in
      let all : was.turns ≡ its.0.turns = whole t.0 t.1 (was.logged (was.owner actor) its.0 its.1) its.2 t.2 in
      dite (ℕ_discrete (was.owner actor) seat)
      (λ e. grind (arith, same_view, its_seat, log_then, append_assoc))
      (λ ne. let has = is.logged (was.owner actor) its.0 (other_seat s (was.owner actor) ne ∙ its.1) in
      (has.later, has.goes_on ∙ ap (λ l. l ++ has.later) (sym all))))
      (ends was.turns)

  -- nobody else has an event more
  others_same : (actor : ℕ) → actor ≢ s.before.low → events_of actor is.turns ≡ events_of actor was.turns
  others_same actor ne = dite (dec_le setup.actors actor)
      (λ h. is.strangers actor h ∙ sym (was.strangers actor h))
      (λ h. let its = was.actors actor (omega arith) in
      let away : was.owner actor ≢ seat = grind (arith, same_view) in
      own-all actor (is.logged (was.owner actor) its.0 (other_seat s (was.owner actor) away ∙ its.1)) its.2
      ∙ sym (own-all actor (was.logged (was.owner actor) its.0 its.1) its.2))

  -- what the event comes behind has all own events that there were
  own_first : events_of s.before.low (s.before.turns ++ logs.later) ≡ events_of s.before.low was.turns
  own_first = grind (arith, was.logged seat s.before s.was, events-append, append-nil, own-all)

  -- and there is the one more
  own_then : events_of s.before.low is.turns ≡ events_of s.before.low was.turns ++ event ∷ []
  own_then =
      grind (arith, is.logged seat s.after (its_seat s), its_seat, own-all, events-append, own_first, events-mine)

  -- so the log has just the event more
  one_more : is.turns ≡ was.turns ++ event ∷ []
  one_more =
      let had = was.turns in
      let rest = log_first.0 in
      let split : (actor : ℕ) → events_of actor had ++ events_of actor rest ≡ events_of actor is.turns =
      λ actor. sym (events-append actor had rest) ∙ ap (events_of actor) (sym log_first.1) in
      log_first.1 ∙ ap (λ l. had ++ l) (just-one s.before.low rest
      (λ actor ne. append_cancel_left (events_of actor had) (events_of actor rest) []
      (split actor ∙ (others_same actor ne ∙ sym (append-nil (events_of actor had)))))
      (grind (arith, append_cancel_left, own_then)))

  -- and comes behind all that was there
  moment : was.turns ≡ s.before.turns ++ logs.later
  moment = ⊎_elim
      (λ (t : (s.before.turns ++ logs.later ≡ was.turns) × (event ≡ event)). sym t.0)
      (λ (t : (rest : List TurnEvent) × (was.turns ≡ (s.before.turns ++ logs.later) ++ event ∷ rest)).
      absurd (grind (arith, some-mine (s.before.turns ++ logs.later) event t.0 mine, t.1, own_first)))
      (grind (arith, last_or_there, its_seat, one_more, log_then))

  locks_then : HasLocks setup old (s.before.turns ++ logs.later)
  locks_then = record {
    words = λ node known. was.lock_words node known ∙ ap (λ l. lock_in l node) moment;
    inside = λ node actor known held.
        let t = was.locks node actor known (was.lock_words node known ∙ (ap (λ l. lock_in l node) moment ∙ held)) in
        (was.owner actor, t.0, t.1, t.2, t.3);
  }

pub come_now : EventsComeNow
come_now setup old new seat before after event was is me views alone low high mine logs =
    locks_then setup old new seat was is record {
      before = before;
      after = after;
      was = me;
      views = views;
      alone = alone;
      low = low;
      high = high;
    } event mine logs

-- so the rule allows no step to tell a turn as lost to another word than that of its lock
pub lost_read : LostTurnsAreRead
lost_read setup slots seat place node is_told change word before state known alone allowed rule homes view small tells =
    let found = slice_index state.words place in
    let event : TurnEvent = Lost before.0.low node (word found) in
    let t = allowed state rule homes view small in
    let told = t.4 tells in
    let logs = told.2 in
    let next = stepped state place (change found) seat before.1 t.0 t.1 in
    let locks = come_now setup state next seat before.0 t.0 event rule t.3 view refl alone told.0 told.1 refl logs in
    let may = logs.in_turn (before.0.turns ++ logs.later) event [] logs.goes_on in
    (locks.words node known ∙ may.0, may.1, may.2)
