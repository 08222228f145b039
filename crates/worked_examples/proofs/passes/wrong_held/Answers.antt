use Rattle.std.proofs.Common.{◌≡◌, ℕ, suc, [], refl, sym, ap, ◌∙◌, arith}
use Rattle.station.specs.Moments.{IsAnothers}
use Rattle.station.specs.Passes.{PassData, actor_of}
use Rattle.station.specs.TurnLaws.{logs-at}
use Rattle.station.specs.declared.view.TurnEvent.{TurnEvent}
use Rattle.station.specs.declared.view.TurnEvent.TheVariants.{Lost}
use Rattle.worked_examples.proofs.passes.wrong_held.Goals as goal

pub returns : goal.returns
returns c = record {
  alone = λ setup old new other count states lost through first last known alone.
      let event : TurnEvent = Lost (actor_of old) 2 (suc other) in
      let at = logs-at old.view.turns [] event [] new.view.turns (new.view.turns, lost.logs, refl) in
      let comes = c.events_come_within_calls.ensures setup old.seat count states old.view new.view at.0 event through
      first last (sym (ap (λ (q : PassData). q.view.low) lost.turn)) at.1 at.2 in
      let here : IsAnothers (states comes.0) (actor_of old) 2 (suc other) = comes.2.moment known in
      here.0 (sym here.6 ∙ ap suc (alone comes.0 comes.1 here.2 here.3 here.4 here.5));
  free = λ setup old new other count states lost through first last known none.
      let event : TurnEvent = Lost (actor_of old) 2 (suc other) in
      let at = logs-at old.view.turns [] event [] new.view.turns (new.view.turns, lost.logs, refl) in
      let comes = c.events_come_within_calls.ensures setup old.seat count states old.view new.view at.0 event through
      first last (sym (ap (λ (q : PassData). q.view.low) lost.turn)) at.1 at.2 in
      let here : IsAnothers (states comes.0) (actor_of old) 2 (suc other) = comes.2.moment known in
      let e : ◌≡◌ {A = ℕ} 0 (suc other) = sym (none comes.0 comes.1) ∙ here.1 in omega (arith, e);
}
