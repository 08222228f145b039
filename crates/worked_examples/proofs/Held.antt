-- A find that was held: at one of its steps another pass was inside the node.
use Rattle.std.proofs.Common.{ℕ, suc, ◌<◌, List, [], ◌∷◌, refl, sym, ap, ◌∙◌, subst, Some}
use Rattle.std.specs.Prelude.{flat_map}
use Rattle.atomic_table.specs.Table.{State}
use Rattle.entry_word.specs.declared.visit.Act.{Act}
use Rattle.directory.specs.Finds.{FindCall}
use Rattle.directory.specs.Keys.{key_node}
use Rattle.station.specs.Moments.{AreOthersOut, EventsComeWithinCalls, GoesThrough, IsAnothers}
use Rattle.station.specs.Passes.{PassData, actor_of}
use Rattle.station.specs.Rule.{IsViewOf}
use Rattle.station.specs.Setup.{Setup, nodes_in, setting_in}
use Rattle.station.specs.TurnLaws.{logs-append, logs-at}
use Rattle.station.specs.declared.turns.Held.{Held}
use Rattle.station.specs.declared.view.TurnEvent.{TurnEvent}
use Rattle.station.specs.declared.view.TurnEvent.TheVariants.{Lost}
use Rattle.station.specs.declared.view.View.{View}
use Rattle.tracker_calls.specs.Added.{turns_taken}
use Rattle.tracker_calls.specs.Finds.{HasStopped}

pub held-by : EventsComeWithinCalls → (setup : Setup) (old new : PassData) (call : FindCall) (held : Held) (count : ℕ)
    (states : ℕ → State Act View) → HasStopped setup old call held new → GoesThrough setup old.seat count states
    → IsViewOf (states 0).views old.seat old.view → IsViewOf (states count).views old.seat new.view
    → held.node < nodes_in setup
    → ((step : ℕ) → step < count → AreOthersOut (states step) (actor_of old) held.node) → ⊥
held-by law setup old new call held count states stopped through first last known alone =
    let between = stopped.between in
    let lost = stopped.turn in
    let place = key_node (setting_in setup) stopped.key in
    let event : TurnEvent = Lost (actor_of between) place (suc held.by) in
    let events : List TurnEvent = flat_map (turns_taken (actor_of old)) stopped.added.turns in
    let logged = stopped.added.logged in
    let all = logs-append old.view.turns between.view.turns new.view.turns events (event ∷ [])
    logged.logs (new.view.turns, lost.logs, refl) in
    let at = logs-at old.view.turns events event [] new.view.turns all in
    let comes = law setup old.seat count states old.view new.view at.0 event through first last
    (sym (ap (λ (q : PassData). q.view.low) lost.turn)) at.1 at.2 in
    let here : IsAnothers (states comes.0) (actor_of between) place (suc held.by) =
    comes.2.moment (subst (λ (n : ℕ). n < nodes_in setup) lost.node known) in
    let low = alone comes.0 comes.1 here.2 here.3 here.4
    (here.5 ∙ ap (λ (n : ℕ). Some n) (sym lost.node)) in
    here.0 (sym here.6 ∙ ap suc (low ∙ sym stopped.added.same.actor))
