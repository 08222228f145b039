-- That a handset goes on with its pass, and stands for the same steps: once the pass has heard a
-- note, made a visit that is no put (a look, a census), lost a turn, entered a node, or left it. So
-- between any two puts a pass may do all of these.
-- Key laws: `handset-heard`, `handset-visited`, `handset-held`, `handset-inside`,
-- `handset-outside`; `handset-stays-on` joins two of them.
use Rattle.std.proofs.Common.{◌≡◌, ℕ, suc, false, List, [], ◌∷◌, ◌++◌, cond, length, take, refl, sym, ap, ◌∙◌, subst}
use Rattle.std.proofs.lemmas.List.{append-nil}
use Rattle.entry_word.specs.declared.visit.Act.{Act}
use Rattle.entry_word.specs.declared.visit.Visit.{Visit}
use Rattle.directory.specs.Histories.{is_put_for, puts_to}
use Rattle.directory.specs.Legal.{ArePuts, IsScript}
use Rattle.directory.specs.Writes.{visits}
use Rattle.handset.specs.Condition.{HandsetData}
use Rattle.handset.specs.Stands.{StandsForSteps}
use Rattle.station.specs.Handsets.{HandsetStays}
use Rattle.station.specs.Passes.{NoteData, PassData}
use Rattle.station.specs.Plays.{view_held, view_inside, view_outside, visit_by}
use Rattle.station.specs.PutLaws.{puts-append, puts-seen}
use Rattle.station.specs.Setup.{Setup, setting_in}
use Rattle.station.specs.Visits.{HasHeard, HasLost, HasVisited}
use Rattle.station.specs.declared.turns.Held.{Held}
use Rattle.station.specs.declared.view.TurnEvent.{TurnEvent}
use Rattle.station.specs.declared.view.View.{View}

-- where the same puts of the subscriber have been seen
pub handset-stays : (setup : Setup) (old new : View) (handset : HandsetData) → new.low ≡ old.low
    → puts_to old.low new.seen ≡ puts_to old.low old.seen → HandsetStays setup old new handset
handset-stays setup old new handset low puts its =
    let setting = setting_in setup in
    let both : puts_to new.low new.seen ≡ puts_to old.low old.seen =
    ap (λ a. puts_to a new.seen) low ∙ puts in (
      record {
        goes = its.goes;
        sub = its.sub ∙ sym low;
        steps = its.steps;
        script = subst (λ a. IsScript setting a its.steps) (sym low) its.script;
        stands = subst (λ n. StandsForSteps setting handset its.steps n) (ap length (sym both))
            its.stands;
        made = both ∙ (its.made ∙ (ap (λ (l : List Visit). take (length l) (visits setting old.low
            its.steps)) (sym both)
            ∙ ap (λ a. take (length (puts_to new.low new.seen)) (visits setting a its.steps))
            (sym low)));
      },
      refl,
    )

-- over two stretches of views it stays, where it stays over each
pub handset-stays-on : {setup : Setup} {old between new : View} {handset : HandsetData}
    → HandsetStays setup old between handset → HandsetStays setup between new handset
    → HandsetStays setup old new handset
handset-stays-on first second its =
    let one = first its in let two = second one.0 in (two.0, two.1 ∙ one.1)

-- after a note
pub handset-heard : (old : PassData) (note : NoteData) (new : PassData) (handset : HandsetData)
    → HasHeard old note new → HandsetStays old.view.setup old.view new.view handset
handset-heard old note new handset heard its =
    handset-stays old.view.setup old.view new.view handset heard.same.actor
    (puts-seen (setting_in old.view.setup) old.view.low old.view.seen new.view.seen heard.begins
    heard.visits (heard.legal old.view.low its.script.known)) its

-- after a visit that is no put
pub handset-visited : (old : PassData) (act : Act) (ticket : ℕ) (new : PassData)
    (handset : HandsetData) → is_put_for old.view.low act ≡ false
    → HasVisited old act ticket new → HandsetStays old.view.setup old.view new.view handset
handset-visited old act ticket new handset away visited its =
    let setting = setting_in old.view.setup in
    let sub = old.view.low in
    let visit : Visit = visit_by old.view act in
    let same : puts_to sub new.view.seen ≡ puts_to sub visited.earlier =
    ap (puts_to sub) visited.seen ∙ (puts-append sub visited.earlier (visit ∷ [])
    ∙ (ap (λ b. puts_to sub visited.earlier ++ cond b (visit ∷ []) []) away
    ∙ append-nil (puts_to sub visited.earlier))) in
    handset-stays old.view.setup old.view new.view handset visited.same.actor
    (same ∙ puts-seen setting sub old.view.seen visited.earlier visited.begins visited.visits
    (subst (λ (puts : List Visit). ArePuts setting sub puts) same
    (visited.legal sub its.script.known))) its

-- after a lost turn
pub handset-held : (old : PassData) (place : ℕ) (held : Held) (new : PassData)
    (handset : HandsetData) → HasLost old place held new
    → HandsetStays old.view.setup old.view new.view handset
handset-held old place held new handset lost =
    let view : new.view ≡ view_held old.view place (suc held.by) new.view.turns =
    ap (λ (p : PassData). p.view) lost.turn in
    subst (λ (v : View). HandsetStays old.view.setup old.view v handset) (sym view)
    (handset-stays old.view.setup old.view (view_held old.view place (suc held.by) new.view.turns)
    handset refl refl)

-- inside a node that was entered
pub handset-inside : (setup : Setup) (old : View) (node : ℕ) (act : Act) (log : List TurnEvent)
    (handset : HandsetData) → HandsetStays setup old (view_inside old node act log) handset
handset-inside setup old node act log handset =
    handset-stays setup old (view_inside old node act log) handset refl refl

-- outside of a node that was left
pub handset-outside : (setup : Setup) (old : View) (log : List TurnEvent) (handset : HandsetData)
    → HandsetStays setup old (view_outside old log) handset
handset-outside setup old log handset =
    handset-stays setup old (view_outside old log) handset refl refl
