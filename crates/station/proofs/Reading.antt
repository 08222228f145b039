-- Loads: the rule is seen, and a cell or a tally is read.
use Rattle.std.proofs.Common.{◌≡◌, ◌≢◌, ℕ, true≢false, [], length, drop, set, refl, sym, ap, ◌∙◌, subst, arith, Some}
use Rattle.std.specs.Prelude.{slice_index}
use Rattle.std.proofs.lemmas.List.{set-get_or}
use mathlib.Core.Option.{none}
use Rattle.atomic_table.specs.Table.{step, keeps, Allows}
use Rattle.atomic_table.proofs.Lists.{set_again}
use Rattle.entry_word.specs.declared.visit.Key.{Key}
use Rattle.directory.specs.Keys.{key_node}
use Rattle.directory.specs.Histories.{cell}
use Rattle.directory.specs.Census.{census}
use Rattle.station.specs.Setup.{Setup, setting_in, IsCellOf, tally_word, cell_word}
use Rattle.station.specs.Views.{visits_at}
use Rattle.station.specs.Rule.{KeepsRule, IsViewOf}
use Rattle.station.specs.Plays.{Seat, ReadsCell, ReadsTally, Witnesses}
use Rattle.station.specs.Visits.{HasTurn}
use Rattle.station.specs.declared.view.View.{View}
use Rattle.station.proofs.Apart.{one_inside, same_number}
use Rattle.station.proofs.Staying.{cell-stays, census-stays}
use Rattle.station.proofs.Steps.{St, no_some, with}
use Rattle.station.proofs.Turning.{written_here, tallied_here}
use Rattle.directory.specs.Statements.{SameKey}
use Rattle.visit_log.specs.Numbers.{NumbersApart}

-- a load changes nothing
pub unmoved : {setup : Setup} {s : St} (i j : ℕ) (v : View) → KeepsRule setup s → IsViewOf s.views j v
    → KeepsRule setup (with (set s.words i (slice_index s.words i)) s j v)
unmoved {setup} {s} i j v o me = grind (arith, set-get_or, set_again)

pub witnesses : (n id i : ℕ) (m : Seat)
    → Allows (KeepsRule m.0.setup) n id m i (λ y. y) (Witnesses (step n i 0 0 none) m)
witnesses n id i m s o wide me small =
    (m.0, keeps, tt, unmoved i id m.0 o me, (refl, record { state = s; seat = id; kept = o; view_is = me }))

pub all_seen : {setup : Setup} {s : St} (o : KeepsRule setup s) (j : ℕ) {x : ℕ} {v : View} → IsViewOf s.views j v
    → HasTurn v x → visits_at (setting_in setup) x (drop (length v.seen) o.history) ≡ []
all_seen {setup} o j {x} {v} me turn =
    rw (← turn.count)
    (((o.views j v me).inside x turn.inside).drawn turn.has_drawn).last

-- what the history leaves in a cell there is what the view has seen of it
pub cell_seen : SameKey → {setup : Setup} {s : St} (o : KeepsRule setup s) (j : ℕ) {v : View} (key : Key)
    → IsViewOf s.views j v → HasTurn v (key_node (setting_in setup) key) → cell (setting_in setup) o.history key ≡ cell
    (setting_in setup) v.seen key
cell_seen law {setup} o j {v} key me turn = grind (arith, cell-stays, all_seen)

pub census_seen : SameKey → {setup : Setup} {s : St} (o : KeepsRule setup s) (j : ℕ) {x : ℕ} {v : View}
    → IsViewOf s.views j v → HasTurn v x → census (setting_in setup) o.history x ≡ census (setting_in setup) v.seen x
census_seen law {setup} o j {x} {v} me turn = census-stays law (setting_in setup) x v.seen o.history
    (o.views j v me).has.seen (all_seen o j me turn)

pub alone : {setup : Setup} {s : St} (o : KeepsRule setup s) (j : ℕ) {x : ℕ} (v : View) → IsViewOf s.views j v
    → v.inside ≡ Some x → (k : ℕ) (u : View) → k ≢ j → IsViewOf s.views k u → u.inside ≢ Some x
alone o j v me there k u ne at is = ne (one_inside o j k v u me at there is)

pub reads_cell : NumbersApart → SameKey → (n id : ℕ) {i : ℕ} (m : Seat) {key : Key} → IsCellOf m.0.setup key
    → i ≡ cell_word m.0.setup key → HasTurn m.0 (key_node (setting_in m.0.setup) key)
    → Allows (KeepsRule m.0.setup) n id m i (λ y. y) (ReadsCell (step n i 0 0 none) m)
reads_cell law same n id {i} m {key} known at turn s o wide me small =
    let setup = m.0.setup in
    let node = key_node (setting_in setup) key in (
      m.0,
      keeps,
      tt,
      unmoved i id m.0 o me,
      (
        refl,
        λ other cell_there at'.
            let number : cell_word setup key ≡ cell_word setup other = sym at ∙ at' in
            let e : key ≡ other = grind (arith, same_number) in (
              (λ quiet. subst (λ (k : Key). slice_index s.words i ≡ cell (setting_in setup) m.0.seen k) e
                  (ap (slice_index s.words) at
                  ∙ (o.cells key known (written_here o id m.0 key me (alone o id m.0 me turn.inside) refl
                  (λ is. no_some (sym quiet ∙ is)))
                  ∙ cell_seen same o id key me turn))),
              λ is. ap (slice_index s.words) at' ∙ ((o.views id m.0 me).unwritten other is).word,
            ),
      ),
    )

pub reads_tally : SameKey → (n id : ℕ) {i : ℕ} (m : Seat) {node : ℕ} → i ≡ tally_word m.0.setup node → HasTurn m.0 node
    → Allows (KeepsRule m.0.setup) n id m i (λ y. y) (ReadsTally (step n i 0 0 none) m)
reads_tally same n id {i} m {node} at turn s o wide me small =
    let setup = m.0.setup in
    let here = (o.views id m.0 me).inside node turn.inside in (
      m.0,
      keeps,
      tt,
      unmoved i id m.0 o me,
      (
        refl,
        λ other at'.
            let e : node ≡ other = omega (arith, at, at') in (
              (λ clear. subst (λ (k : ℕ). slice_index s.words i ≡ length (census (setting_in setup) m.0.seen k)) e
                  (ap (slice_index s.words) at
                  ∙ (o.tallies node here.known (tallied_here o id node m.0 me (alone o id m.0 me turn.inside)
                  (λ due is. true≢false (sym due ∙ clear)))
                  ∙ ap length (census_seen same o id me turn)))),
              λ due. ap (slice_index s.words) at ∙ here.tally due,
            ),
      ),
    )
