-- The rule at the opening, and where a seat is split in two, or noted.
use Rattle.std.proofs.Common.{◌≡◌, ◌≢◌, ℕ, ◌<◌, ◌≤◌, ◌==◌, eq-eqb, cond, List, [], ◌∷◌, ◌++◌, length, set, refl, sym, ◌∙◌, subst, arith, None, length-set}
use mathlib.Core.Option.{some-ne-none}
use mathlib.Core.Logic.{dite}
use native.Mathlib.Decide.{ℕ_discrete}
use Rattle.atomic_table.specs.Table.{opening, Splits}
use Rattle.atomic_table.proofs.Lists.{set_again, set_here, set_else, at_last, at_longer}
use Rattle.directory.specs.Settings.{Setting, subs, start}
use Rattle.directory.specs.Courses.{MaySteps}
use Rattle.directory.specs.Puts.{steps_from}
use Rattle.directory.specs.Legal.{IsLegal}
use Rattle.station.specs.Setup.{Setup, CellsLie, setting_in, nodes_in, subs_in}
use Rattle.station.specs.Views.{IsSoundView, StandsForActor}
use Rattle.station.specs.Rule.{KeepsRule, IsViewOf}
use Rattle.station.specs.Opening.{AreOpening}
use Rattle.directory.specs.Histories.{History}
use Rattle.station.specs.Plays.{first_view, note_of, view_of_first, view_of_rest}
use Rattle.station.specs.declared.view.NodeTurn.{NodeTurn}
use Rattle.station.specs.declared.view.View.{View}
use Rattle.std.specs.List.{Contains}
use Rattle.station.specs.Turns.{HasLogged}
use Rattle.station.proofs.Logging.{log-nil, logged-same}
use Rattle.station.proofs.Steps.{St, seat_below, each_push, each_set, has-kept, no_some, reseated, same_view}
use Rattle.station.proofs.Writing.{cell_below}
use Rattle.visit_log.specs.Numbers.{NumbersBelow}

-- no visit is legal
pub nothing_legal : (setting : Setting) (sub : ℕ) → sub < subs setting → start setting sub < setting.nodes
    → IsLegal setting sub []
unfolding steps_from MaySteps
nothing_legal setting sub known begins = search

-- nothing is in no list
pub none_lost : (turn : NodeTurn) → Contains [] turn → ⊥
none_lost turn had = omega (arith, had.1)

one_view : (P : ℕ → View → Type 0) (v : View) → P 0 v → (k : ℕ) (u : View) → IsViewOf (v ∷ []) k u → P k u
one_view P v its = each_push P [] its (λ k u none. absurd (some-ne-none u (sym none)))

pub opens : NumbersBelow → {setup : Setup} {words : List ℕ} → CellsLie setup → setup.actors ≤ 128
    → ((sub : ℕ) → sub < subs_in setup → start (setting_in setup) sub < nodes_in setup) → AreOpening setup words
    → KeepsRule setup (opening words [] (first_view setup))
opens below {setup} {words} lies few inside all =
    let v = first_view setup in
    let o = all.laid in
    record {
      history = [];
      owner = λ _. 0;
      lies = lies;
      size = all.size;
      few_actors = few;
      tickets = o.ticket (omega (arith, all.size));
      views = one_view (IsSoundView setup words [] (λ _. 0)) v (search (arith, none_lost));
      actors = λ actor below. (v, refl, (omega arith, below));
      known = λ _ _. refl;
      few = λ _. omega arith;
      turns = [];
      in_turn = log-nil;
      strangers = λ _ _. refl;
      lock_words = λ node known. o.locks node known (omega (arith, all.size, known));
      logged = grind (arith, one_view);
      locks = λ node actor known is. absurd (omega (arith, o.locks node known (omega (arith, all.size, known)), is));
      cells = grind (arith, cell_below);
      tallies = λ node known _. o.tallies node known (omega (arith, all.size, known));
      legal = λ sub known. nothing_legal (setting_in setup) sub known (inside sub known);
    }

-- a view in no node, as a seat that stands for fewer actors has it
narrowed : {setup : Setup} {words : List ℕ} {history : History} {before : ℕ → ℕ} {j : ℕ} {v : View}
    → IsSoundView setup words history before j v → v.inside ≡ None → v.unwritten ≡ None
    → {owner : ℕ → ℕ} {k low high : ℕ}
    → ((actor : ℕ) → (low ≤ actor) × (actor < high) → StandsForActor v actor × (owner actor ≡ k))
    → IsSoundView setup words history owner k (record v { low = low; high = high })
narrowed {v} was out clear {low} {high} stands =
    record {
      setup_is = was.setup_is;
      has = has-kept (record v { low = low; high = high }) refl refl refl (λ actor st. (stands actor st).0) was.has;
      owner_is = λ actor st. let t = stands actor st in (t.1, (was.owner_is actor t.0).1);
      inside = λ node is. absurd (no_some (sym out ∙ is));
      unwritten = λ key is. absurd (no_some (sym clear ∙ is));
      outside = λ _. was.outside out;
      others = λ actor st. was.others actor (stands actor st).0;
    }

-- the first of its actors is dealt to a new seat
pub deals : (setup : Setup) (id : ℕ) (v : View) → v.low < v.high → v.inside ≡ None → v.unwritten ≡ None
    → Splits (KeepsRule setup) id v (view_of_rest v) (view_of_first v)
deals setup id v more out clear s o me =
    let count = length s.views in
    let vs : List View = set s.views id (view_of_rest v) in
    let new : List View = vs ++ view_of_first v ∷ [] in
    let owner : ℕ → ℕ = λ actor. cond (actor == v.low) count (o.owner actor) in
    let was = o.views id v me in
    let first : (actor : ℕ) → actor ≡ v.low → owner actor ≡ count = grind (arith, eq-eqb) in
    let later : (actor : ℕ) → actor ≢ v.low → owner actor ≡ o.owner actor = grind arith in
    let mine : (actor : ℕ) → StandsForActor v actor → o.owner actor ≡ id = λ actor st. (was.owner_is actor st).0 in
    let rest_there : IsViewOf new id (view_of_rest v) =
    at_longer vs _ id _ (set_here s.views id (view_of_rest v) (seat_below s.views id v me)) in
    let first_there : IsViewOf new count (view_of_first v) = at_last vs _ count (length-set s.views id _) in
    let there : (k : ℕ) (u : View) → k ≢ id → IsViewOf s.views k u → IsViewOf new k u =
    λ k u ne at. at_longer vs _ k u (set_else s.views id k (view_of_rest v) ne ∙ at) in
    let each : (P : ℕ → View → Type 0) → P id (view_of_rest v) → P count (view_of_first v)
    → ((k : ℕ) (u : View) → k ≢ id → IsViewOf s.views k u → P k u) → (k : ℕ) (u : View) → IsViewOf new k u → P k u =
    λ P rest one others. each_push P vs (subst (λ (n : ℕ). P n (view_of_first v)) (sym (length-set s.views id _)) one)
    (each_set P s.views id rest others) in
    reseated {o = o} record {
      sound = each (IsSoundView setup s.words o.history owner)
          (narrowed was out clear (λ actor st. grind arith))
          (narrowed was out clear (λ actor st. ((st.0, omega (arith, st.1, more)), first actor (omega (arith, st)))))
          (λ k u ne at. let old = o.views k u at in
          let owner_is : (actor : ℕ) → StandsForActor u actor → (owner actor ≡ k) × (actor < setup.actors) = λ actor st.
          let own = old.owner_is actor st in (
            later actor (λ e. ne (sym own.0 ∙ mine actor (omega (arith, e), omega (arith, e, more)))) ∙ own.0,
            own.1,
          ) in
          assumption);
      actors = λ actor below. let t = o.actors actor below in dite (ℕ_discrete actor v.low)
          (λ e. (
            view_of_first v,
            subst (λ k. IsViewOf new k (view_of_first v)) (sym (first actor e)) first_there,
            (omega (arith, e), omega (arith, e)),
          ))
          (λ ne. subst (λ (k : ℕ). (u : View) × IsViewOf new k u × StandsForActor u actor) (sym (later actor ne))
          (grind (arith, ℕ_discrete, same_view)));
      remains = grind (arith, same_view);
      in_turn = o.in_turn;
      strangers = o.strangers;
      logged = each (λ _ u. HasLogged o.turns u)
          (logged-same (view_of_rest v) refl refl (λ actor st. (omega (arith, st.0), st.1)) (o.logged id v me))
          (logged-same (view_of_first v) refl refl (λ actor st. (st.0, omega (arith, st.1, more))) (o.logged id v me))
          (λ k u _ at. o.logged k u at);
      locked = λ _. refl;
    }

-- a note of what a view has seen is put on a new seat
pub notes : (setup : Setup) (id : ℕ) (v : View) → Splits (KeepsRule setup) id v v (note_of v)
notes setup id v s o me =
    let was = o.views id v me in
    let has = o.logged id v me in
    let noted : List View → St = λ vs. record { words = s.words; homes = s.homes; views = vs ++ note_of v ∷ [] } in
    subst (λ (vs : List View). KeepsRule setup (noted vs)) (sym (set_again s.views id v me)) (reseated {o = o} record {
      sound = each_push (IsSoundView setup s.words o.history o.owner) s.views (search (arith, was)) o.views;
      actors = λ actor below. let t = o.actors actor below in
          (t.0, at_longer s.views (note_of v ∷ []) (o.owner actor) t.0 t.1, t.2);
      remains = λ k u node at is. (k, u, at_longer s.views (note_of v ∷ []) k u at, is, refl, refl, refl);
      in_turn = o.in_turn;
      strangers = o.strangers;
      logged = each_push (λ _ u. HasLogged o.turns u) s.views (search (arith, has)) o.logged;
      locked = λ _. refl;
    })
