-- The steps that leave the history as it is keep the rule.
use Rattle.std.proofs.Common.{◌≡◌, ◌≢◌, ◌⊎◌, ℕ, zero, suc, ◌<◌, ◌≤◌, true, List, [], ◌∷◌, ◌++◌, length, set, refl, sym, ap, ◌∙◌, subst, inl, inr, arith, Some, None}
use Rattle.std.specs.Prelude.{slice_index}
use mathlib.Core.Option.{some, none, some-injective}
use mathlib.Core.Logic.{dite}
use native.Mathlib.Decide.{ℕ_discrete}
use lib.ListN.{get_elem?}
use Rattle.atomic_table.specs.Table.{State}
use Rattle.atomic_table.proofs.Lists.{at_set, set_here, set_else}
use Rattle.entry_word.specs.declared.visit.Key.{Key}
use Rattle.entry_word.specs.declared.visit.Act.{Act}
use Rattle.directory.specs.Keys.{key_node}
use Rattle.directory.specs.Histories.{History, cell}
use Rattle.directory.specs.Census.{census}
use Rattle.station.specs.Setup.{Setup, setting_in, nodes_in, IsCellOf, lock_word, tally_word, cell_word}
use Rattle.station.specs.Views.{HasSeen, IsSoundView, StandsForActor}
use Rattle.station.specs.Rule.{KeepsRule, IsViewOf, IsOwned, IsHeld}
use Rattle.station.specs.declared.view.TurnEvent.{TurnEvent}
use Rattle.station.specs.declared.view.View.{View}
use Rattle.station.specs.Turns.{HasLogged, IsLog, events_of, lock_in}
use Rattle.station.proofs.Logging.{LogGoes, all-logged}
use Rattle.station.proofs.Apart.{IsWordAt, is_lock, is_tally, is_cell, resound}
use Rattle.directory.specs.ListLaws.{same_some}

abbrev pub St : Type 0
St = State Act View

abbrev pub with : List ℕ → St → ℕ → View → St
with ws s j w = record { words = ws; homes = s.homes; views = set s.views j w }

-- the views of one seat are one
pub same_view : (views : List View) {j k : ℕ} {v u : View} → IsViewOf views j v → IsViewOf views k u → k ≡ j → u ≡ v
same_view views {v} {u} me at e = some-injective u v (sym at ∙ (ap (get_elem? views) e ∙ me))

-- each actor keeps its seat
pub owned : (s : St) (owner : ℕ → ℕ) (j actor : ℕ) (v w : View) → IsViewOf s.views j v → w.low ≡ v.low → w.high ≡ v.high
    → j < length s.views → IsOwned s.views owner actor → IsOwned (set s.views j w) owner actor
owned s owner j actor v w me low high near o = grind (arith, same_view, set_here s.views j w near, set_else)

-- there is a view at a seat only below the count of seats
pub seat_below : (views : List View) (j : ℕ) (v : View) → IsViewOf views j v → j < length views
seat_below [] j v e = absurd (mathlib.Core.Option.some-ne-none v (sym e))
seat_below (x ∷ xs) zero v e = omega arith
seat_below (x ∷ xs) (suc j) v e = omega (arith, seat_below xs j v e)

-- what holds of a seat's new view, and of the views of others, holds of all
pub each_set : (P : ℕ → View → Type 0) (views : List View) (j : ℕ) {w : View} → P j w
    → ((k : ℕ) (u : View) → k ≢ j → IsViewOf views k u → P k u)
    → (k : ℕ) (u : View) → IsViewOf (set views j w) k u → P k u
each_set P views j {w} mine others k u at = grind (arith, at_set)

-- and where a seat is added
pub each_push : (P : ℕ → View → Type 0) (views : List View) {w : View} → P (length views) w
    → ((k : ℕ) (u : View) → IsViewOf views k u → P k u) → (k : ℕ) (u : View) → IsViewOf (views ++ w ∷ []) k u → P k u
each_push P [] {w} new old zero u at = subst (P 0) (some-injective w u at) new
each_push P [] new old (suc k) u at = old (suc k) u at
each_push P (first ∷ later) new old zero u at = old 0 u at
each_push P (first ∷ later) new old (suc k) u at =
    each_push (λ i. P (suc i)) later new (λ i. old (suc i)) k u at

-- a view that has seen the same, and stands for no others
pub has-kept : {history : History} {v : View} (w : View) → w.seen ≡ v.seen → w.told ≡ v.told → w.had ≡ v.had
    → ((actor : ℕ) → StandsForActor w actor → StandsForActor v actor) → HasSeen history v → HasSeen history w
has-kept w seen told had stands has = grind (arith, has.visits, has.kept, stands)

-- a seat's view and a word of the node that it is inside are replaced
pub record Changes (setup : Setup) (s : St) (o : KeepsRule setup s) (j x : ℕ) (v w : View) (new : List ℕ) : Type 0 where
  pub me : IsViewOf s.views j v
  pub known : x < nodes_in setup
  pub before : (v.inside ≡ None) ⊎ (v.inside ≡ Some x)
  pub low : w.low ≡ v.low
  pub high : w.high ≡ v.high
  -- the log then
  pub log : List TurnEvent
  pub goes : LogGoes setup s o j w log
  pub lock_else : (y : ℕ) → x ≢ y → lock_in log y ≡ lock_in o.turns y
  pub lock_here : slice_index new (lock_word x) ≡ lock_in log x
  pub size : length new ≡ length s.words
  pub first : slice_index new 0 ≡ slice_index s.words 0
  pub elsewhere : (y k : ℕ) → y < nodes_in setup → x ≢ y → IsWordAt setup y k
      → slice_index new k ≡ slice_index s.words k
  pub mine : IsSoundView setup new o.history o.owner j w
  -- nobody else is inside the node
  pub alone : (k : ℕ) (u : View) → k ≢ j → IsViewOf s.views k u → u.inside ≢ Some x
  pub lock : (actor : ℕ) → slice_index new (lock_word x) ≡ suc actor → IsHeld (set s.views j w) o.owner x actor
  pub cells : (key : Key) → IsCellOf setup key → key_node (setting_in setup) key ≡ x → w.unwritten ≢ Some key
      → slice_index new (cell_word setup key) ≡ cell (setting_in setup) o.history key
  pub tally : (w.owes ≡ true → w.inside ≢ Some x)
      → slice_index new (tally_word setup x) ≡ length (census (setting_in setup) o.history x)

pub no_some : {A : Type 0} {x : A} → None ≡ Some x → ⊥
no_some e = cc

other_node : (v : View) {x : ℕ} (y : ℕ) → x ≢ y → (v.inside ≡ None) ⊎ (v.inside ≡ Some x) → v.inside ≢ Some y
other_node v y ne (inl out) e = no_some (sym out ∙ e)
other_node v y ne (inr there) e = ne (same_some (sym there ∙ e))

pub changed : {setup : Setup} {s : St} {o : KeepsRule setup s} {j x : ℕ} {v w : View} {new : List ℕ}
    → Changes setup s o j x v w new → KeepsRule setup (with new s j w)
changed {setup} {s} {o} {j} {x} {v} {w} {new} c =
    let near = seat_below s.views j v c.me in
    record {
      history = o.history;
      owner = o.owner;
      lies = o.lies;
      size = c.size ∙ o.size;
      few_actors = o.few_actors;
      tickets = c.first ∙ o.tickets;
      views = each_set (IsSoundView setup new o.history o.owner) s.views j c.mine (λ k u ne at.
          let was = o.views k u at in
          let same : (node i : ℕ) → u.inside ≡ Some node → IsWordAt setup node i
          → slice_index new i ≡ slice_index s.words i = λ node i is word. c.elsewhere node i (was.inside node is).known
          (λ e. c.alone k u ne at (is ∙ ap (λ (n : ℕ). Some n) (sym e))) word in
          resound new o.history was was.has (λ _ f. f) (λ _ _ none. none) (λ due. due) (λ _ put. put)
          (λ node is. same node _ is (is_lock refl)) (λ node is _. same node _ is (is_tally refl))
          (λ key _ is known. same (key_node (setting_in setup) key) _ is (is_cell key known refl refl)));
      actors = λ actor below. owned s o.owner j actor v w c.me c.low c.high near (o.actors actor below);
      known = o.known;
      few = o.few;
      turns = c.log;
      in_turn = c.goes.in_turn;
      strangers = c.goes.strangers;
      lock_words = λ node known. dite (ℕ_discrete x node)
          (λ e. rw (← e) c.lock_here)
          (λ ne. c.elsewhere node (lock_word node) known ne (is_lock refl)
          ∙ (o.lock_words node known ∙ sym (c.lock_else node ne)));
      logged = all-logged c.goes;
      locks = λ node actor inside is. dite (ℕ_discrete x node)
          (λ e. rw (← e) (c.lock actor (rw e is)))
          (λ ne. let t = o.locks node actor inside (sym (c.elsewhere node (lock_word node) inside ne
          (is_lock refl)) ∙ is) in
          let away : o.owner actor ≢ j = grind (arith, other_node, same_view) in
          (t.0, set_else s.views j (o.owner actor) w away ∙ t.1, t.2, t.3));
      cells = λ key known quiet. dite (ℕ_discrete x (key_node (setting_in setup) key))
          (λ e. c.cells key known (sym e) (quiet j w (set_here s.views j w near)))
          (λ ne. c.elsewhere (key_node (setting_in setup) key) (cell_word setup key) (o.lies key known) ne
          (is_cell key known refl refl) ∙ o.cells key known (λ k u at is.
          dite (ℕ_discrete k j)
          (λ e. let same = same_view s.views c.me at e in
          other_node v (key_node (setting_in setup) key) ne c.before
          (ap (λ (y : View). y.inside) (sym same) ∙ ((o.views k u at).unwritten key is).inside))
          (λ away. quiet k u (set_else s.views j k w away ∙ at) is)));
      tallies = λ node known quiet. dite (ℕ_discrete x node)
          (λ e. grind (arith, set_here s.views j w near))
          (λ ne. c.elsewhere node (tally_word setup node) known ne (is_tally refl)
          ∙ o.tallies node known (λ k u at owes is.
          dite (ℕ_discrete k j)
          (λ e. grind (arith, same_view, other_node))
          (λ away. quiet k u (set_else s.views j k w away ∙ at) owes is)));
      legal = o.legal;
    }

-- among these is a view that is inside the node, and has as much to write there
abbrev pub Remains : List View → View → ℕ → Type 0
Remains views old node = (seat : ℕ) × (view : View) × IsViewOf views seat view × (view.inside ≡ Some node)
    × (view.low ≡ old.low) × (view.unwritten ≡ old.unwritten) × (view.owes ≡ old.owes)

-- the seats are others, but the words stay
pub record Reseats (setup : Setup) (s : St) (o : KeepsRule setup s) (views : List View) (owner : ℕ → ℕ)
    (log : List TurnEvent) : Type 0 where
  pub sound : (k : ℕ) (u : View) → IsViewOf views k u → IsSoundView setup s.words o.history owner k u
  pub actors : (actor : ℕ) → actor < setup.actors → IsOwned views owner actor
  pub remains : (k : ℕ) (u : View) (node : ℕ) → IsViewOf s.views k u → u.inside ≡ Some node → Remains views u node
  pub in_turn : IsLog log
  pub strangers : (actor : ℕ) → setup.actors ≤ actor → events_of actor log ≡ []
  pub logged : (k : ℕ) (u : View) → IsViewOf views k u → HasLogged log u
  pub locked : (node : ℕ) → lock_in log node ≡ lock_in o.turns node

pub reseated : {setup : Setup} {s : St} {o : KeepsRule setup s} {views : List View} {owner : ℕ → ℕ}
    {log : List TurnEvent} → Reseats setup s o views owner log
    → KeepsRule setup (record { words = s.words; homes = s.homes; views = views })
reseated {o} {views} {owner} {log} r =
    record {
      history = o.history;
      owner = owner;
      lies = o.lies;
      size = o.size;
      few_actors = o.few_actors;
      tickets = o.tickets;
      views = r.sound;
      actors = r.actors;
      known = o.known;
      few = o.few;
      turns = log;
      in_turn = r.in_turn;
      strangers = r.strangers;
      lock_words = λ node known. o.lock_words node known ∙ sym (r.locked node);
      logged = r.logged;
      locks = λ node actor known is. let t = o.locks node actor known is in
          let m = r.remains (o.owner actor) t.0 node t.1 t.2 in
          let its = r.sound m.0 m.1 m.2 in
          let low : m.1.low ≡ actor = m.4 ∙ t.3 in
          let own = its.owner_is actor (omega (arith, low), omega (arith, low, (its.inside node m.3).alone)) in
          (m.1, subst (λ k. IsViewOf views k m.1) (sym own.0) m.2, m.3, low);
      cells = λ key known quiet. o.cells key known (λ k u at is.
          let m = r.remains k u _ at ((o.views k u at).unwritten key is).inside in quiet m.0 m.1 m.2 (m.5 ∙ is));
      tallies = λ node known quiet. o.tallies node known (λ k u at due is.
          let m = r.remains k u node at is in quiet m.0 m.1 m.2 (m.6 ∙ due) m.3);
      legal = o.legal;
    }
