-- Stores: a put is written, and a tally.
use Rattle.std.proofs.Common.{◌≡◌, ◌≢◌, ℕ, ◌<◌, Bool, true, true≢false, length, set, refl, sym, ap, subst, ◌∙◌, inr, arith, Option, Some, get_or-set_other, get_or-set_same, length-set}
use Rattle.std.specs.Prelude.{slice_index}
use mathlib.Core.Option.{none}
use mathlib.Core.Logic.{dite}
use native.Mathlib.Decide.{ℕ_discrete}
use Rattle.atomic_table.specs.Table.{step, keeps, Allows}
use Rattle.atomic_table.proofs.Lists.{set_here}
use Rattle.entry_word.specs.declared.visit.Key.{Key}
use Rattle.directory.specs.Keys.{key_node}
use Rattle.directory.specs.Histories.{cell}
use Rattle.directory.specs.Census.{census}
use Rattle.visit_log.specs.Numbers.{NumbersApart, NumbersBelow}
use Rattle.station.specs.Setup.{Setup, setting_in, nodes_in, subs_in, IsCellOf, lock_word, tally_word, cell_word, word_count}
use Rattle.station.specs.Rule.{KeepsRule, IsViewOf, IsHeld}
use Rattle.station.specs.Plays.{Seat, view_after_put, view_after_tally, Writes, Tallies}
use Rattle.station.specs.Visits.{HasTurn}
use Rattle.station.specs.declared.view.View.{View}
use Rattle.station.proofs.Apart.{IsWordAt, is_tally, is_cell, else_where, behind, behind_tally, resound, same_number}
use Rattle.station.proofs.Steps.{St, with, seat_below, changed, has-kept, no_some, same_view}
use Rattle.station.proofs.Turning.{written_here, tallied_here}
use Rattle.station.proofs.Reading.{cell_seen, census_seen, alone}
use Rattle.station.proofs.Logging.{log-stays}
use Rattle.directory.specs.Statements.{SameKey}
use Rattle.directory.specs.ListLaws.{same_some}

pub cell_below : NumbersBelow → (setup : Setup) {key : Key} → IsCellOf setup key
    → cell_word setup key < word_count setup
cell_below law setup {key} known = omega (arith, law setup.plan (subs_in setup) key known)

-- who is inside a node when another of its words changes
pub still_held : (s : St) (o : ℕ → ℕ) (j : ℕ) {x actor : ℕ} (v w : View) → IsViewOf s.views j v → w.inside ≡ v.inside
    → w.low ≡ v.low → IsHeld s.views o x actor → IsHeld (set s.views j w) o x actor
still_held s o j {actor} v w me inside low t = dite (ℕ_discrete (o actor) j)
    (λ e. grind (arith, same_view, set_here, seat_below))
    (λ ne. (t.0, Rattle.atomic_table.proofs.Lists.set_else s.views j (o actor) w ne ∙ t.1, t.2, t.3))

-- the view inside a node stores a word of it, but not the lock: what it leaves in the cells and in the tally is told
stored : NumbersApart → {setup : Setup} {s : St} (o : KeepsRule setup s) (j : ℕ) {x i : ℕ} (new : ℕ) {v : View}
    {unwritten : Option Key} {owes : Bool} → IsViewOf s.views j v → v.inside ≡ Some x → IsWordAt setup x i → 0 ≢ i
    → lock_word x ≢ i → (owes ≡ true → (v.owes ≡ true) × (tally_word setup x ≢ i))
    → ((key : Key) → unwritten ≡ Some key → (v.unwritten ≡ Some key) × (cell_word setup key ≢ i))
    → ((key : Key) → IsCellOf setup key → key_node (setting_in setup) key ≡ x → unwritten ≢ Some key
    → slice_index (set s.words i new) (cell_word setup key) ≡ cell (setting_in setup) o.history key)
    → ((owes ≡ true → v.inside ≢ Some x)
    → slice_index (set s.words i new) (tally_word setup x) ≡ length (census (setting_in setup) o.history x))
    → KeepsRule setup (with (set s.words i new) s j (record v { unwritten = unwritten; owes = owes }))
stored law {setup} {s} o j {x} {i} new {v} {unwritten} {owes} me there word not_first not_lock due put cells tally =
    let ws = set s.words i new in
    let w : View = record v { unwritten = unwritten; owes = owes } in
    let was = o.views j v me in
    let known = (was.inside x there).known in
    let stays : (k : ℕ) → k ≢ i → slice_index ws k ≡ slice_index s.words k =
    λ k ne. get_or-set_other s.words i k new 0 ne in
    let at : (F : ℕ → ℕ) (node : ℕ) → v.inside ≡ Some node → F x ≢ i
    → slice_index ws (F node) ≡ slice_index s.words (F node) =
    λ F node is ne. stays (F node) (subst (λ (n : ℕ). F n ≢ i) (same_some (sym there ∙ is)) ne) in
    changed record {
      me = me;
      known = known;
      before = inr there;
      low = refl;
      high = refl;
      log = o.turns;
      goes = log-stays o j v w me refl refl refl refl;
      lock_else = λ _ _. refl;
      lock_here = stays (lock_word x) not_lock ∙ o.lock_words x known;
      size = length-set s.words i new;
      first = stays 0 not_first;
      elsewhere = λ y k iny ne other. else_where law s.words new known iny ne word other;
      mine = resound ws o.history was (has-kept w refl refl refl (λ _ st. st) was.has) (λ _ f. f) (λ _ _ none. none)
          (λ owed. (due owed).0) (λ key is. (put key is).0) (λ node is. at lock_word node is not_lock)
          (λ node is owed. at (tally_word setup) node is (due owed).1)
          (λ key is _ _. stays (cell_word setup key) (put key is).1);
      alone = alone o j v me there;
      lock = λ actor names. still_held s o.owner j v w me refl refl
          (o.locks x actor known (sym (stays (lock_word x) not_lock) ∙ names));
      cells = cells;
      tally = tally;
    }

pub writes : NumbersApart → NumbersBelow → SameKey → (n id : ℕ) {i new : ℕ} (m : Seat) {key : Key}
    → m.0.unwritten ≡ Some key → IsCellOf m.0.setup key → i ≡ cell_word m.0.setup key
    → HasTurn m.0 (key_node (setting_in m.0.setup) key) → new ≡ cell (setting_in m.0.setup) m.0.seen key
    → Allows (KeepsRule m.0.setup) n id m i (λ _. new) (λ _. Writes (step n i new 0 none) m new)
writes law below same n id {i} {new} m {key} put known at turn is s o wide me small =
    let v = m.0 in
    let setup = v.setup in
    let x = key_node (setting_in setup) key in
    let ws = set s.words i new in
    let here = (o.views id v me).inside x turn.inside in
    let near : i < length s.words = rw (o.size, at) (cell_below below setup known) in
    let others = alone o id v me turn.inside in
    let word : slice_index ws i ≡ cell (setting_in setup) o.history key =
    get_or-set_same s.words i new 0 near ∙ (is ∙ sym (cell_seen same o id key me turn)) in
    let not_lock : lock_word x ≢ i = λ e. behind (nodes_in setup) x _ here.known (sym (e ∙ at)) in
    let not_tally : tally_word setup x ≢ i = λ e. behind_tally (nodes_in setup) x _ here.known (sym (e ∙ at)) in (
      view_after_put v,
      keeps,
      tt,
      stored law o id new me turn.inside (is_cell key known refl at) (λ e. omega (arith, e, at)) not_lock
          (λ due. (due, not_tally)) (λ _ none. absurd (no_some none))
          (λ other cell_there there quiet. dite (ℕ_discrete (cell_word setup other) i)
          (λ e. rw (
            e,
            ← law setup.plan (subs_in setup) key other known cell_there
                (same_number (nodes_in setup) _ _ (sym at ∙ sym e)),
          ) word)
          (λ ne. get_or-set_other s.words i (cell_word setup other) new 0 ne
          ∙ o.cells other cell_there (written_here o id v other me others there
          (λ had. ne (ap (cell_word setup) (same_some (sym had ∙ put)) ∙ sym at)))))
          (λ quiet. get_or-set_other s.words i (tally_word setup x) new 0 not_tally
          ∙ o.tallies x here.known (tallied_here o id x v me others quiet)),
      refl,
    )

pub tallies : NumbersApart → SameKey → (n id : ℕ) {x i new : ℕ} (m : Seat) → HasTurn m.0 x → i ≡ tally_word m.0.setup x
    → new ≡ length (census (setting_in m.0.setup) m.0.seen x) → Allows (KeepsRule m.0.setup) n id m i (λ _. new)
    (λ _. Tallies (step n i new 0 none) m new)
tallies law same n id {x} {i} {new} m turn at is s o wide me small =
    let v = m.0 in
    let setup = v.setup in
    let ws = set s.words i new in
    let here = (o.views id v me).inside x turn.inside in
    let near : i < length s.words = omega (arith, o.size, here.known, at) in
    let others = alone o id v me turn.inside in
    let not_cell : (key : Key) → cell_word setup key ≢ i = λ key e. behind_tally (nodes_in setup) x _ here.known
    (e ∙ at) in (
      view_after_tally v,
      keeps,
      tt,
      stored law o id new me turn.inside (is_tally at) (λ e. omega (arith, at, e))
          (λ e. omega (arith, here.known, at, e))
          (λ due. absurd (true≢false (sym due))) (λ key put. (put, not_cell key))
          (λ key known there quiet. get_or-set_other s.words i (cell_word setup key) new 0 (not_cell key)
          ∙ o.cells key known (written_here o id v key me others there quiet))
          (λ quiet. ap (slice_index ws) (sym at) ∙ (get_or-set_same s.words i new 0 near
          ∙ (is ∙ sym (ap length (census_seen same o id me turn))))),
      refl,
    )
