-- Short laws of logs of turns that go on, for the crates above: the events of an actor, the turns
-- that were lost and won, events that come one after another, and what passes have logged; and a
-- call that was held, as part of another.
-- Key laws: `logs-append` (events come into a log one after another in two parts), `logs-at` (each
-- of them stands in it, behind all that it had).
use Rattle.std.proofs.Common.{◌≡◌, ℕ, ◌≤◌, ◌==◌, eq-eqb, cond, List, [], ◌∷◌, ◌++◌, length, refl, sym, ap, ◌∙◌, subst, arith, append_assoc, length-append}
use Rattle.std.specs.Prelude.{Err, IsErrAnd, MatchResult, Ok, Result}
use Rattle.std.proofs.lemmas.List.{append-nil}
use Rattle.std.proofs.lemmas.List.Elements.{filter-append}
use Rattle.entry_word.specs.declared.visit.Act.{Act}
use Rattle.directory.specs.Keys.{act_node}
use Rattle.station.specs.Moments.{IsLoggedAt}
use Rattle.station.specs.Passes.{PassData, actor_of}
use Rattle.station.specs.Setup.{Setup, setting_in}
use Rattle.station.specs.Turns.{HasHadTurn, Logs, LogsAll, event_actor, events_of, losses, lost_in}
use Rattle.station.specs.Views.{turn_at}
use Rattle.station.specs.Visits.{HasLoggedMore, HasVisited}
use Rattle.station.specs.declared.turns.Held.{Held}
use Rattle.station.specs.declared.view.NodeTurn.{NodeTurn}
use Rattle.station.specs.declared.view.TurnEvent.{TurnEvent}
use Rattle.station.specs.declared.view.TurnEvent.TheVariants.{Won, GivenBack, Lost}

-- the events of an actor in two parts of a log
pub events-append : (actor : ℕ) (xs ys : List TurnEvent)
    → events_of actor (xs ++ ys) ≡ events_of actor xs ++ events_of actor ys
events-append actor xs ys = filter-append (λ (e : TurnEvent). event_actor e == actor) xs ys

-- an actor's own event is the first of its events
pub events-mine : (actor : ℕ) (event : TurnEvent) (later : List TurnEvent)
    → event_actor event ≡ actor
    → events_of actor (event ∷ later) ≡ event ∷ events_of actor later
events-mine actor event later mine =
    ap (λ b. cond b (event ∷ events_of actor later) (events_of actor later))
    (eq-eqb (event_actor event) actor mine)

-- the turns that are lost in two parts of a log
pub lost-append : (xs ys : List TurnEvent) → lost_in (xs ++ ys) ≡ lost_in xs ++ lost_in ys
lost-append [] ys = refl
lost-append (Won actor node ∷ xs) ys = lost-append xs ys
lost-append (GivenBack actor node ∷ xs) ys = lost-append xs ys
lost-append (Lost actor node word ∷ xs) ys = ap (λ l. turn_at node word ∷ l) (lost-append xs ys)

-- losses lose just those turns
pub losses-lost : (actor : ℕ) (turns : List NodeTurn) → lost_in (losses actor turns) ≡ turns
losses-lost actor [] = refl
losses-lost actor (turn ∷ turns) = ap (λ l. turn ∷ l) (losses-lost actor turns)

-- events come into a log one after another in two parts
pub logs-append : (first second third : List TurnEvent) (xs ys : List TurnEvent)
    → LogsAll first xs second → LogsAll second ys third → LogsAll first (xs ++ ys) third
logs-append first second third [] ys h g = subst (λ l. LogsAll l ys third) h g
logs-append first second third (x ∷ xs) ys h g =
    (h.0, h.1, logs-append h.0 second third xs ys h.2 g)

-- events that come into a log leave it with what it had, and more
logs-grow : (before : List TurnEvent) (events : List TurnEvent) (log : List TurnEvent)
    → LogsAll before events log → (more : List TurnEvent) × (log ≡ before ++ more)
logs-grow before [] log all = ([], all ∙ sym (append-nil before))
logs-grow before (event ∷ later) log all =
    let first = all.1 in
    let rest = logs-grow all.0 later log all.2 in (
      first.later ++ event ∷ rest.0,
      rest.1 ∙ (ap (λ l. l ++ rest.0) first.goes_on
          ∙ (append_assoc (before ++ first.later) (event ∷ []) rest.0
          ∙ append_assoc before first.later (event ∷ rest.0))),
    )

-- where a log stands behind these when an event comes, it has the event then, and goes on
logged-behind : (before : List TurnEvent) (event : TurnEvent) (inside : List TurnEvent)
    (later : List TurnEvent) (log : List TurnEvent) → Logs before event inside
    → LogsAll inside later log → (earlier : List TurnEvent) × (length before ≤ length earlier)
    × IsLoggedAt earlier event log
logged-behind before event inside later log first all =
    let rest = logs-grow inside later log all in (
      before ++ first.later,
      omega (arith, length-append before first.later),
      (
        rest.0,
        rest.1 ∙ (ap (λ l. l ++ rest.0) first.goes_on
            ∙ append_assoc (before ++ first.later) (event ∷ []) rest.0),
      ),
    )

-- each of the events that come into a log stands in it behind all that it had
pub logs-at : (before front : List TurnEvent) (event : TurnEvent) (back log : List TurnEvent)
    → LogsAll before (front ++ event ∷ back) log
    → (earlier : List TurnEvent) × (length before ≤ length earlier) × IsLoggedAt earlier event log
logs-at before [] event back log all = logged-behind before event all.0 back log all.1 all.2
logs-at before (x ∷ front) event back log all =
    let there = logs-at all.0 front event back log all.2 in
    let longer = logs-grow before (x ∷ []) all.0 (all.0, all.1, refl) in (
      there.0,
      omega (arith, there.1, ap length longer.1, length-append before longer.0),
      there.2,
    )

-- a pass has logged nothing more; and some, and then more
pub logged-none : (pass : PassData) → HasLoggedMore pass [] pass
logged-none pass = record { logs = refl; lost = sym (append-nil pass.view.lost) }

pub logged-more : (one two three : PassData) (xs ys : List TurnEvent)
    → HasLoggedMore one xs two → HasLoggedMore two ys three → HasLoggedMore one (xs ++ ys) three
logged-more one two three xs ys first second = record {
  logs = logs-append one.view.turns two.view.turns three.view.turns xs ys first.logs second.logs;
  lost = second.lost ∙ (ap (λ (l : List NodeTurn). l ++ lost_in ys) first.lost
      ∙ (append_assoc one.view.lost (lost_in xs) (lost_in ys)
      ∙ ap (λ l. one.view.lost ++ l) (sym (lost-append xs ys))));
}

-- a visit is made in one turn, won and given back
pub logged-turn : (setup : Setup) (old new : PassData) (act : Act) (ticket : ℕ)
    → old.view.setup ≡ setup → HasVisited old act ticket new
    → HasLoggedMore old (Won (actor_of old) (act_node (setting_in setup) act)
    ∷ GivenBack (actor_of old) (act_node (setting_in setup) act) ∷ []) new
logged-turn setup old new act ticket told visited =
    let actor = actor_of old in
    let turn : HasHadTurn actor (act_node (setting_in setup) act) old.view.turns new.view.turns =
    subst (λ (s : Setup). HasHadTurn actor (act_node (setting_in s) act) old.view.turns
    new.view.turns) told visited.turn in
    record {
      logs = (turn.inside, turn.won, (new.view.turns, turn.given_back, refl));
      lost = visited.lost ∙ sym (append-nil old.view.lost);
    }

-- a call ends held where a call that it made was held so
pub held-passed : {T : Type 0} (result : Result T Held) (held : Held) (P : T → Type 0)
    (Q : Held → Type 0) → IsErrAnd result (λ other. other ≡ held) → Q held
    → MatchResult result P Q
held-passed (Ok done) held P Q h q = absurd h
held-passed (Err other) held P Q h q = subst Q (sym h) q
