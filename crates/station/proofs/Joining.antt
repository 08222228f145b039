-- A seat takes another in.
use Rattle.std.proofs.Common.{◌≡◌, ℕ, ◌^◌, ◌<◌, ◌≤◌, Bool, List, length, refl, sym, ap, ◌∙◌, arith, None, lt-ltb, le-ltb}
use Rattle.std.specs.Prelude.{if◌then◌else◌}
use Rattle.std.proofs.lemmas.Bool.Decides.{nat_tests}
use mathlib.Core.Option.{none}
use native.Mathlib.Decide.{dec_le}
use Rattle.atomic_table.specs.Table.{Me, Joins, Allows, step, keeps}
use Rattle.atomic_table.proofs.Lists.{set_else}
use Rattle.entry_word.specs.declared.visit.Act.{Act}
use Rattle.directory.specs.Histories.{History, IsFront}
use Rattle.trail_laws.specs.Within.{HistoryFrontsAreLegal}
use Rattle.station.specs.Setup.{Setup, setting_in}
use Rattle.station.specs.Views.{IsSoundView}
use Rattle.station.specs.Rule.{KeepsRule, IsViewOf}
use Rattle.station.specs.Plays.{Seat, longer, view_with_note, spent_view, IsLearned, Learns}
use Rattle.station.specs.Passes.{IsPass}
use Rattle.station.specs.declared.view.View.{View}
use Rattle.station.proofs.Fronts.{front-of_longer, own-between, own-none_longer}
use Rattle.station.proofs.Apart.{resound}
use Rattle.station.proofs.Steps.{with, no_some}
use Rattle.station.proofs.Turning.{restated}
use Rattle.station.proofs.Logging.{log-stays}
use Rattle.station.proofs.Reading.{unmoved}
use Rattle.station.specs.TicketLaws.{tickets-same}
use Rattle.directory.specs.ListLaws.{none_there}

-- a view that is spent stands for nobody
spent_sound : (setup : Setup) (words : List ℕ) (history : History) (owner : ℕ → ℕ) (seat : ℕ)
    → IsSoundView setup words history owner seat spent_view
spent_sound setup words history owner seat = search arith

-- the longer of two
pub longer_is : (P : History → Type 0) {one other : History} → P one → P other → P (longer one other)
longer_is P {one} {other} a b = grind arith

pub longer_other : (one other : History) → length one < length other → longer one other ≡ other
longer_other one other h = ap (λ (c : Bool). if c then other else one) (lt-ltb (length one) (length other) h)

pub longer_one : (one other : History) → length other ≤ length one → longer one other ≡ one
longer_one one other h = ap (λ (c : Bool). if c then other else one) (le-ltb (length one) (length other) h)

pub longer_long : (one other : History)
    → (length one ≤ length (longer one other)) × (length other ≤ length (longer one other))
longer_long one other = grind (arith, nat_tests)

-- a note is heard: the seat has seen what was noted, and the note is spent
pub hears : (setup : Setup) (id other : ℕ) (v w : View) → w.low ≡ 0 → w.high ≡ 0 → w.inside ≡ None
    → Joins (KeepsRule setup) id v other w (view_with_note v w) spent_view
hears setup id other v w low high out s o me ne at =
    let them : IsViewOf s.views other w = sym (set_else s.views id other (view_with_note v w) ne) ∙ at in
    let was = o.views id v me in
    let note = o.views other w them in
    let b = view_with_note v w in
    let heard : KeepsRule setup (with s.words s id b) = restated v me refl refl refl refl refl
    (log-stays o id v b me refl refl refl refl) (λ _. refl) (resound s.words o.history was record {
      seen = longer_is (λ (l : History). IsFront l o.history) was.has.seen note.has.seen;
      told = note.has.seen;
      had = was.has.seen;
      visits = grind (arith, dec_le, longer_one, longer_other, own-between);
      kept = λ actor st. was.has.visits actor st;
    } (λ _ f. f) (λ _ _ none. none) (λ due. due) (λ _ put. put) (λ _ _. refl) (λ _ _ _. refl) (λ _ _ _ _. refl)) in
    restated {o = heard} w at (sym low) (sym high) (sym out)
    (sym (none_there w.unwritten (λ key is. no_some (sym out ∙ (note.unwritten key is).inside))))
    (sym (note.outside out).1)
    record {
      in_turn = heard.in_turn;
      strangers = heard.strangers;
      mine = record { later = heard.turns; goes_on = refl; by_others = search arith; lost = search arith };
      others = λ k u _ there. heard.logged k u there;
    } (λ _. refl) (spent_sound setup s.words heard.history heard.owner other)

-- what was heard is learned
pub learns : HistoryFrontsAreLegal → (n id i : ℕ) (m : Seat) → (setting_in m.0.setup).nodes ≤ 2 ^ 16
    → length m.0.told ≤ length m.0.seen → length m.0.had ≤ length m.0.seen
    → Allows (KeepsRule m.0.setup) n id m i (λ y. y) (Learns (step n i 0 0 none) m)
learns law n id i m low short had s o wide me small =
    let v = m.0 in
    let was = o.views id v me in (
      v,
      keeps,
      tt,
      unmoved i id v o me,
      (
        refl,
        record {
          told = front-of_longer v.told v.seen o.history was.has.told was.has.seen short;
          had = front-of_longer v.had v.seen o.history was.has.had was.has.seen had;
          visits = λ actor st. sym (was.has.visits actor st) ∙ was.has.kept actor st;
          known = λ actor above. own-none_longer actor v.seen o.history was.has.seen (o.known actor above);
          legal = λ sub known. rw was.has.seen
              (law (setting_in v.setup) sub o.history (length v.seen) low (o.legal sub known));
        },
      ),
    )

-- a pass that has heard a note
pub pass_heard : {me new : Me Act View} (w : View) {actor seen seen' spare : ℕ} {kept : List ℕ} {room : ℕ}
    → IsPass me actor seen spare kept room → new ≡ (view_with_note me.0 w, me.1) → IsLearned new.0
    → seen' ≡ length (longer me.0.seen w.seen) → IsPass new actor seen' spare kept room
pass_heard {me} w {actor} {kept = kept} p e l count = grind (arith, tickets-same)
