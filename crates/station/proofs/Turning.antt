-- The turn at a node: it is won or lost, and given back.
use Rattle.std.proofs.Common.{◌≡◌, ◌≢◌, ℕ, suc, ◌-◌, ◌<◌, ◌≤◌, ◌==◌, true, false, List, [], ◌∷◌, ◌++◌, length, set, refl, sym, ap, ◌∙◌, subst, inl, inr, ⊎_elim, arith, Some, None, get_or-set_other, get_or-set_same, length-set}
use Rattle.std.specs.Prelude.{slice_index}
use Rattle.std.proofs.lemmas.List.{set-get_or, append-nil}
use mathlib.Core.Option.{some, none, some-injective}
use mathlib.Core.Logic.{dite}
use native.Mathlib.Decide.{ℕ_discrete}
use prog.Atomic.{either}
use Rattle.atomic_table.specs.Table.{State, Me, Step, step, keeps, Valid, carried_after, stepped, Allows}
use Rattle.atomic_table.proofs.Lists.{set_here, set_else, exchanged}
use Rattle.entry_word.specs.declared.visit.Key.{Key}
use Rattle.entry_word.specs.declared.visit.Act.{Act}
use Rattle.directory.specs.Keys.{key_node}
use Rattle.station.specs.Setup.{Setup, setting_in, nodes_in, lock_word, cell_word}
use Rattle.station.specs.Views.{IsInsideNode, IsSoundView, StandsForActor, turn_at}
use Rattle.station.specs.Rule.{KeepsRule, IsViewOf, IsHeld, IsCellWritten, IsTallied}
use Rattle.station.specs.Plays.{Seat, view_inside, view_held, Turns, view_outside, Leaves}
use Rattle.station.specs.declared.view.NodeTurn.{NodeTurn}
use Rattle.station.specs.declared.view.View.{View}
use Rattle.std.specs.List.{Contains}
use Rattle.std.proofs.lemmas.List.Elements.{Contains-push_cases}
use Rattle.station.specs.Turns.{IsInTurn, lock_in}
use Rattle.station.specs.declared.view.TurnEvent.{TurnEvent}
use Rattle.station.specs.declared.view.TurnEvent.TheVariants.{Won, GivenBack, Lost}
use Rattle.station.proofs.Logging.{LogGoes, all-logged, lock-back, lock-back_else, lock-push, lock-won, lock-won_else, log-goes, logs}
use Rattle.station.proofs.Apart.{is_lock, else_where, one_inside, behind}
use Rattle.station.proofs.Steps.{Remains, St, with, owned, seat_below, changed, each_set, reseated, same_view}
use Rattle.visit_log.specs.Numbers.{NumbersApart}
use Rattle.directory.specs.ListLaws.{same_some}

-- a view is in no node and has no duty
pub record IsIdle (view : View) : Type 0 where
  pub out : view.inside ≡ None
  pub unwritten : view.unwritten ≡ None

-- what is unwritten, or owed, at a node where nobody else is
pub written_here : {setup : Setup} {s : St} (o : KeepsRule setup s) (j : ℕ) {x : ℕ} (v : View) (key : Key)
    → IsViewOf s.views j v → ((k : ℕ) (u : View) → k ≢ j → IsViewOf s.views k u → u.inside ≢ Some x)
    → key_node (setting_in setup) key ≡ x → v.unwritten ≢ Some key → IsCellWritten s.views key
written_here {s} o j v key me alone at mine k u there is = grind (arith, o.views k u there, ℕ_discrete, same_view)

pub tallied_here : {setup : Setup} {s : St} (o : KeepsRule setup s) (j x : ℕ) (v : View) → IsViewOf s.views j v
    → ((k : ℕ) (u : View) → k ≢ j → IsViewOf s.views k u → u.inside ≢ Some x) → (v.owes ≡ true → v.inside ≢ Some x)
    → IsTallied s.views x
tallied_here {s} o j x v me alone mine k u there owes is = grind (arith, ℕ_discrete, same_view)

-- the view of a seat changes in what the rule doesn't speak of
pub restated : {setup : Setup} {s : St} {o : KeepsRule setup s} {j : ℕ} (v : View) {w : View} → IsViewOf s.views j v
    → w.low ≡ v.low → w.high ≡ v.high → w.inside ≡ v.inside → w.unwritten ≡ v.unwritten → w.owes ≡ v.owes
    → {log : List TurnEvent} → LogGoes setup s o j w log → ((node : ℕ) → lock_in log node ≡ lock_in o.turns node)
    → IsSoundView setup s.words o.history o.owner j w → KeepsRule setup (with s.words s j w)
restated {setup} {s} {o} {j} v {w} me low high inside unwritten owes {log} goes locked mine =
    let Has : View → Type 0 = λ u. (node : ℕ) → u.inside ≡ Some node → Remains (set s.views j w) u node in
    let near = seat_below s.views j v me in
    reseated {o = o} record {
      sound = each_set (IsSoundView setup s.words o.history o.owner) s.views j mine (λ k u _ at. o.views k u at);
      actors = λ actor below. owned s o.owner j actor v w me low high near (o.actors actor below);
      remains = λ k u node at. dite (ℕ_discrete k j)
          (λ e. subst Has (sym (same_view s.views me at e))
          (λ at_node is. (j, w, set_here s.views j w near, inside ∙ is, low, unwritten, owes)) node)
          (λ ne is. (k, u, set_else s.views j k w ne ∙ at, is, refl, refl, refl));
      in_turn = goes.in_turn;
      strangers = goes.strangers;
      logged = all-logged goes;
      locked = locked;
    }

pub some_not_none : {x : ℕ} → Some x ≡ None → ⊥
some_not_none e = cc

entering : NumbersApart → {setup : Setup} {s : St} (o : KeepsRule setup s) (j x : ℕ) {v : View} (act : Act)
    → IsViewOf s.views j v → x < nodes_in setup → v.high ≡ suc v.low → IsIdle v → slice_index s.words (lock_word x) ≡ 0
    → KeepsRule setup (with (set s.words (lock_word x) (suc v.low)) s j
    (view_inside v x act (o.turns ++ Won v.low x ∷ [])))
entering law {setup} {s} o j x {v} act me known alone idle free =
    let new = set s.words (lock_word x) (suc v.low) in
    let log : List TurnEvent = o.turns ++ Won v.low x ∷ [] in
    let w = view_inside v x act log in
    let was = o.views j v me in
    let near = seat_below s.views j v me in
    let wide : lock_word x < length s.words = omega (arith, o.size) in
    let at = get_or-set_same s.words (lock_word x) (suc v.low) 0 wide in
    let calm = was.outside idle.out in
    let here : IsInsideNode setup new o.history w x = grind arith in
    let nobody : (k : ℕ) (u : View) → IsViewOf s.views k u → u.inside ≢ Some x =
    λ k u at is. let h = (o.views k u at).inside x is in omega (arith, h.lock, free) in
    let others : (k : ℕ) (u : View) → k ≢ j → IsViewOf s.views k u → u.inside ≢ Some x = λ k u ne at. nobody k u at in
    changed record {
      me = me;
      known = known;
      before = inl idle.out;
      low = refl;
      high = refl;
      log = log;
      goes = log-goes o j v w (Won v.low x) me alone refl (sym (o.lock_words x known) ∙ free) refl refl refl
          (sym (append-nil v.lost));
      lock_else = λ y ne. lock-won_else o.turns v.low x y ne;
      lock_here = at ∙ sym (lock-won o.turns v.low x);
      size = length-set s.words (lock_word x) (suc v.low);
      first = get_or-set_other s.words (lock_word x) 0 (suc v.low) 0 (λ e. omega arith);
      elsewhere = λ y k iny ne word. else_where law s.words (suc v.low) known iny ne (is_lock refl) word;
      mine = grind (arith, same_some);
      alone = others;
      lock = λ actor is. let low : v.low ≡ actor = omega (arith, at, is) in
          let mine : o.owner actor ≡ j = ap o.owner (sym low) ∙ (was.owner_is v.low (omega arith)).0 in
          (w, subst (λ k. IsViewOf (set s.views j w) k w) (sym mine) (set_here s.views j w near), refl, low);
      cells = λ key cell at quiet.
          get_or-set_other s.words (lock_word x) (cell_word setup key) (suc v.low) 0 (behind (nodes_in setup) x _ known)
          ∙ o.cells key cell (written_here o j v key me others at quiet);
      tally = grind (arith, get_or-set_other, tallied_here);
    }

pub turns : NumbersApart → (setup : Setup) (n id x : ℕ) (m : Seat) (act : Act) → x < nodes_in setup
    → m.0.high ≡ suc m.0.low → IsIdle m.0
    → Allows (KeepsRule setup) n id m (lock_word x) (λ y. either (y == 0) (suc m.0.low) y)
    (Turns (step n (lock_word x) 0 (suc m.0.low) (some act)) m)
turns law setup n id x m act known alone idle s o wide me small =
    let word = slice_index s.words (lock_word x) in
    let Goes : ℕ → Type 0 = λ k. (w : View) × (a : Rattle.atomic_table.specs.Table.Act Act) × Valid s.homes m.1 a
    × KeepsRule setup (stepped s (lock_word x) k id m.1 w a)
    × Turns (step n (lock_word x) 0 (suc m.0.low) (some act)) m word (w, carried_after m.1 a) in
    exchanged word 0 (suc m.0.low) Goes
    (λ free. let log : List TurnEvent = o.turns ++ Won m.0.low x ∷ [] in (
      view_inside m.0 x act log,
      keeps,
      tt,
      entering law o id x act me known alone idle free,
      λ node other at said.
          let a : x ≡ node = omega arith in let b : act ≡ other = some-injective act other said in (
            (λ _. grind (arith, logs o id m.0 (Won m.0.low x) me alone refl (sym (o.lock_words x known) ∙ free))),
            (λ not. absurd (not free)),
          ),
    ))
    (λ taken. let was = o.views id m.0 me in
    let log : List TurnEvent = o.turns ++ Lost m.0.low x word ∷ [] in
    let w = view_held m.0 x word log in
    let b : ℕ = word - 1 in
    let held : IsHeld s.views o.owner x b = o.locks x b known (omega arith) in
    let theirs = o.views (o.owner b) held.0 held.1 in
    let there = theirs.inside x held.2 in
    let low = held.3 in let high = there.alone in
    let below : b < setup.actors = (theirs.owner_is b (omega arith, omega arith)).1 in
    let few : word ≤ 128 = omega (arith, below, o.few_actors) in
    let other : word ≢ suc m.0.low = grind (arith, same_view, some_not_none) in
    let may : IsInTurn o.turns (Lost m.0.low x word) = (sym (o.lock_words x known), taken, other) in (
      w,
      keeps,
      tt,
      subst (λ (ws : List ℕ). KeepsRule setup (with ws s id w)) (sym (set-get_or s.words (lock_word x) 0))
          (restated m.0 me refl refl refl refl refl (log-goes o id m.0 w (Lost m.0.low x word) me alone refl may refl
          refl refl refl) (λ node. lock-push o.turns (Lost m.0.low x word) node)
          (let others : (actor : ℕ) → StandsForActor w actor → (turn : NodeTurn) → Contains w.lost turn
          → turn.word ≢ suc actor = λ actor st turn had. ⊎_elim
          (λ (old : Contains m.0.lost turn). was.others actor st turn old)
          (λ (e : turn_at x word ≡ turn). grind arith)
          (Contains-push_cases m.0.lost (turn_at x word) turn had) in
          search (arith, was))),
      λ node said-act at said. let a : x ≡ node = omega arith in (
        (λ is. absurd (taken is)),
        λ _. (
          (λ i. (view_held m.0 (a i) word log, m.1)),
          other,
          few,
          rw (← a) (logs o id m.0 (Lost m.0.low x word) me alone refl may),
          λ real. omega (arith, below, ap (λ s. s.actors) (was.setup_is real)),
        ),
      ),
    ))

-- the node is left

pub leaves : NumbersApart → (setup : Setup) (n id : ℕ) {x : ℕ} (m : Seat) → m.0.inside ≡ Some x → m.0.unwritten ≡ None
    → m.0.owes ≡ false → Allows (KeepsRule setup) n id m (lock_word x) (λ _. 0)
    (λ _. Leaves (step n (lock_word x) 0 0 none) m 0)
leaves law setup n id {x} m there unwritten owes s o wide me small =
    let v = m.0 in
    let new = set s.words (lock_word x) 0 in
    let log : List TurnEvent = o.turns ++ GivenBack v.low x ∷ [] in
    let w = view_outside v log in
    let was = o.views id v me in
    let here = was.inside x there in
    let known = here.known in
    let near : lock_word x < length s.words = omega (arith, o.size, known) in
    let others : (k : ℕ) (u : View) → k ≢ id → IsViewOf s.views k u → u.inside ≢ Some x =
    λ k u ne at is. ne (one_inside o id k v u me at there is) in
    let may : IsInTurn o.turns (GivenBack v.low x) = sym (o.lock_words x known) ∙ here.lock in (
      w,
      keeps,
      tt,
      changed record {
        me = me;
        known = known;
        before = inr there;
        low = refl;
        high = refl;
        log = log;
        goes = log-goes o id v w (GivenBack v.low x) me here.alone refl may refl refl refl (sym (append-nil v.lost));
        lock_else = λ y ne. lock-back_else o.turns v.low x y ne;
        lock_here = get_or-set_same s.words (lock_word x) 0 0 near ∙ sym (lock-back o.turns v.low x);
        size = length-set s.words (lock_word x) 0;
        first = get_or-set_other s.words (lock_word x) 0 0 0 (λ e. omega arith);
        elsewhere = λ y k iny ne word. else_where law s.words 0 known iny ne (is_lock refl) word;
        mine = search (arith, was);
        alone = others;
        lock = grind (arith, get_or-set_same);
        cells = λ key cell at quiet.
            get_or-set_other s.words (lock_word x) (cell_word setup key) 0 0 (behind (nodes_in setup) x _ known)
            ∙ o.cells key cell (written_here o id v key me others at quiet);
        tally = grind (arith, get_or-set_other, tallied_here);
      },
      (
        refl,
        λ node at. rw (← same_some (sym there ∙ at))
            (logs o id v (GivenBack v.low x) me here.alone refl may),
      ),
    )

pub turns_at : NumbersApart → (setup : Setup) (n id : ℕ) {x i new : ℕ} (m : Seat) (act : Act) → x < nodes_in setup
    → m.0.high ≡ suc m.0.low → IsIdle m.0 → i ≡ lock_word x → new ≡ suc m.0.low
    → Allows (KeepsRule setup) n id m i (λ y. either (y == 0) new y) (Turns (step n i 0 new (some act)) m)
turns_at law setup n id {x} {new} m act known alone idle at is =
    rw (at, is) (turns law setup n id x m act known alone idle)
