use Rattle.std.proofs.Common.{◌≡◌, ℕ, arith, List, [], ◌∷◌, ◌++◌, length, refl, sym, ap, ◌∙◌, append_assoc, length-append}
use Rattle.std.proofs.lemmas.List.{append-nil}
use Rattle.station.specs.Passes.{actor_of}
use Rattle.station.specs.TurnLaws.{events-append, events-mine}
use Rattle.station.specs.Turns.{Logs, event_actor, events_of}
use Rattle.station.specs.declared.view.TurnEvent.{TurnEvent}
use Rattle.station.specs.declared.view.TurnEvent.TheVariants.{GivenBack, Lost, Won}
use Rattle.worked_examples.proofs.passes.wrong_turns.Goals as goal

pub returns-clause-unlogged : goal.returns-clause-unlogged
returns-clause-unlogged c = λ old new lost same.
    let all = old.view.turns ++ lost.logs.later in
    omega (
      arith,
      ap length (sym lost.logs.goes_on ∙ same),
      length-append all (Lost (actor_of old) 2 6 ∷ []),
      length-append old.view.turns lost.logs.later,
    )

pub returns-clause-visited : goal.returns-clause-visited
returns-clause-visited c = λ old new visited same.
    let won = visited.turn.won in
    let back = visited.turn.given_back in
    omega (
      arith,
      ap length (sym back.goes_on ∙ same),
      length-append (visited.turn.inside ++ back.later) (GivenBack (actor_of old) 2 ∷ []),
      length-append visited.turn.inside back.later,
      ap length won.goes_on,
      length-append (old.view.turns ++ won.later) (Won (actor_of old) 2 ∷ []),
      length-append old.view.turns won.later,
    )

pub returns-clause-unheld : goal.returns-clause-unheld
returns-clause-unheld c = λ old new lost is.
    let e : ◌≡◌ {A = ℕ} 0 6 =
    (lost.logs.in_turn (Won 5 2 ∷ GivenBack 5 2 ∷ []) (Lost (actor_of old) 2 6) [] is).0 in omega (arith, e)

pub returns-clause-held : goal.returns-clause-held
returns-clause-held c = λ old new earlier lost is.
    (lost.logs.in_turn earlier (Lost (actor_of old) 2 6) [] is).0

-- of its own, an actor has logged an event more, and no other
logged-own : (before : List TurnEvent) (event : TurnEvent) (log : List TurnEvent) → Logs before event log
    → events_of (event_actor event) log ≡ events_of (event_actor event) before ++ event ∷ []
logged-own before event log logs =
    let who = event_actor event in
    let last = events_of who (event ∷ []) in
    ap (events_of who) logs.goes_on
    ∙ (events-append who (before ++ logs.later) (event ∷ [])
    ∙ (ap (λ (l : List TurnEvent). l ++ last) (events-append who before logs.later)
    ∙ (ap (λ (l : List TurnEvent). (events_of who before ++ l) ++ last) logs.by_others
    ∙ (ap (λ (l : List TurnEvent). l ++ last) (append-nil (events_of who before))
    ∙ ap (λ (l : List TurnEvent). events_of who before ++ l) (events-mine who event [] refl)))))

pub returns-clause-own_lost : goal.returns-clause-own_lost
returns-clause-own_lost c = λ old new lost.
    logged-own old.view.turns (Lost (actor_of old) 2 6) new.view.turns lost.logs

pub returns-clause-own_visited : goal.returns-clause-own_visited
returns-clause-own_visited c = λ old new visited.
    let actor = actor_of old in
    let turn = visited.turn in
    logged-own turn.inside (GivenBack actor 2) new.view.turns turn.given_back
    ∙ (ap (λ (l : List TurnEvent). l ++ GivenBack actor 2 ∷ [])
    (logged-own old.view.turns (Won actor 2) turn.inside turn.won)
    ∙ append_assoc (events_of actor old.view.turns) (Won actor 2 ∷ []) (GivenBack actor 2 ∷ []))
