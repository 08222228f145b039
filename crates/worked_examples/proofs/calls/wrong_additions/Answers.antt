use Rattle.std.proofs.Common.{◌≡◌, ℕ, List, [], ◌∷◌, ◌++◌, ap, arith, length, slice_index, subst}
use Rattle.std.specs.Prelude.{flat_map}
use Rattle.directory.specs.Histories.{History, tickets, tickets_from}
use Rattle.station.specs.Passes.{PassData, actor_of}
use Rattle.station.specs.Setup.{Setup}
use Rattle.station.specs.Turns.{LogsAll}
use Rattle.tracker_calls.specs.Added.{VisitTurns, turns_taken}
use Rattle.worked_examples.specs.Passes.{count_by}
use Rattle.worked_examples.proofs.calls.wrong_additions.Goals as goal

pub returns-clause-another : goal.returns-clause-another
unfolding tickets_from
returns-clause-another c = λ setup old new before after added.
    let told : tickets 1 (count_by 1 0 ∷ []) ≡ tickets 1 [] ++ 4 ∷ [] =
    subst (λ (h : History). tickets 1 h ≡ tickets 1 [] ++ 4 ∷ []) after.seen_is
    (subst (λ (h : History). tickets 1 new.view.seen ≡ tickets 1 h ++ 4 ∷ []) before.seen_is
    (subst (λ (a : ℕ). tickets a new.view.seen ≡ tickets a old.view.seen ++ 4 ∷ []) before.low added.visits)) in
    let first : 0 ≡ 4 = ap (λ (l : List ℕ). slice_index l 0) told in
    omega (arith, first)

-- where no visit had its turns, nothing came into the log
none-logged : (setup : Setup) (old new : PassData) (turns : List VisitTurns) → length turns ≡ 0
    → LogsAll old.view.turns (flat_map (turns_taken (actor_of old)) turns) new.view.turns
    → new.view.turns ≡ old.view.turns
none-logged setup old new [] none logs = logs
none-logged setup old new (turn ∷ turns) none logs = absurd (omega (arith, none))

pub returns-clause-unlogged : goal.returns-clause-unlogged
returns-clause-unlogged c = λ setup old new added.
    none-logged setup old new added.turns added.count added.logged.logs
