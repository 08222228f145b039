-- A ticket is drawn.
use Rattle.std.proofs.Common.{◌≡◌, ℕ, suc, ◌+◌, ◌%◌, ◌^◌, ◌<◌, ◌≤◌, true≢false, [], ◌∷◌, ◌++◌, length, set, drop, refl, sym, ap, ◌∙◌, inl, inr, arith, Some, get_or-set_other, get_or-set_same, length-set, length-append}
use Rattle.std.specs.Prelude.{slice_index}
use mathlib.Core.Option.{none}
use mathlib.Core.Logic.{dite}
use native.Mathlib.Decide.{ℕ_discrete}
use Rattle.atomic_table.specs.Table.{step, keeps, Allows}
use Rattle.atomic_table.proofs.Lists.{set_here, set_else}
use Rattle.entry_word.specs.declared.visit.Key.{Key}
use Rattle.entry_word.specs.declared.visit.Act.{Act}
use Rattle.entry_word.specs.declared.visit.Visit.{Visit}
use Rattle.directory.specs.Histories.{History, IsFront, cell, changes_here, own}
use Rattle.station.specs.Setup.{Setup, setting_in}
use Rattle.station.specs.Views.{HasDrawn, IsSoundView, StandsForActor, visits_at}
use Rattle.station.specs.Rule.{KeepsRule, IsViewOf}
use Rattle.station.specs.Plays.{Seat, visit_by, key_put, word_before, view_with_ticket, DrawsTicket}
use Rattle.station.specs.Visits.{MayDraw}
use Rattle.station.specs.declared.view.View.{View}
use Rattle.station.proofs.Apart.{not_true, resound}
use Rattle.station.proofs.Logging.{all-logged, log-stays}
use Rattle.station.proofs.Fronts.{front-longer, own-other, own-mine}
use Rattle.station.proofs.Steps.{St, with, owned, seat_below, each_set, no_some, same_view}
use Rattle.station.proofs.Turning.{written_here, tallied_here, some_not_none}
use Rattle.station.proofs.Reading.{alone}
use Rattle.station.proofs.Writing.{still_held}
use Rattle.station.proofs.Staying.{put_node, put_word, word-unput}
use Rattle.station.proofs.Growing.{cell-push, census-push, at-push, few_visits, no_wrap}
use Rattle.station.proofs.Lawful.{legal_more}
use Rattle.station.specs.PutLaws.{puts-seen}
use Rattle.directory.specs.HistoryLaws.{front-itself}
use Rattle.directory.specs.Statements.{SameKey}
use Rattle.directory.specs.ListLaws.{same_some}

drop_all : (history : History) (visit : Visit) → drop (suc (length history)) (history ++ visit ∷ []) ≡ []
drop_all [] visit = refl
drop_all (x ∷ xs) visit = drop_all xs visit

put_before : (setup : Setup) (history : History) (act : Act) {key : Key} → key_put act ≡ Some key
    → cell (setting_in setup) history key ≡ word_before setup history act
put_before setup history act {key} e = sym (ap (word_before setup history) (put_word act key e).1)

pub grows : SameKey → {s : St} (id : ℕ) {x new : ℕ} {v : View} {act : Act} (o : KeepsRule v.setup s)
    → IsViewOf s.views id v → MayDraw v x act → new ≡ suc (length o.history)
    → KeepsRule v.setup (with (set s.words 0 new) s id (view_with_ticket v x act o.history))
grows law {s} id {x} {new} {v} {act} o me may is =
    let setup = v.setup in
    let setting = setting_in setup in
    let ws = set s.words 0 new in
    let history = o.history in
    let visit : Visit = visit_by v act in
    let longer : History = history ++ visit ∷ [] in
    let w = view_with_ticket v x act history in
    let was = o.views id v me in
    let here = was.inside x may.inside in
    let near = seat_below s.views id v me in
    let wide : 0 < length s.words = omega (arith, o.size) in
    let others = alone o id v me may.inside in
    let stands : StandsForActor v v.low = (omega arith, omega (arith, here.alone)) in
    let mine = was.owner_is v.low stands in
    let words : (k : ℕ) → slice_index ws (suc k) ≡ slice_index s.words (suc k) = λ k. get_or-set_other s.words 0
    (suc k) new 0 (λ e. omega arith) in
    let grown : (front : History) → IsFront front history → IsFront front longer =
    λ front f. front-longer front history (visit ∷ []) f in
    let whole = front-itself longer in
    let told = grown v.told was.has.told in
    let last = ap (λ l. visits_at setting x l) (drop_all history visit) in
    let word = λ (key : Key) (put : key_put act ≡ Some key). sym (put_before setup history act put) in
    let drawn : HasDrawn setup longer w x = record {
      earlier = history;
      visit = visit;
      begins = whole;
      mine = refl;
      meant = may.intended;
      at = may.at;
      count = refl;
      last = last;
      put = put_word act;
      word = word;
      moves = λ due. due;
      tally = λ _. refl;
    } in
    record {
      history = longer;
      owner = o.owner;
      lies = o.lies;
      size = length-set s.words 0 new ∙ o.size;
      few_actors = o.few_actors;
      tickets = get_or-set_same s.words 0 new 0 wide ∙ (is ∙ sym (omega (arith, length-append history (visit ∷ []))));
      views = each_set (IsSoundView setup ws longer o.owner) s.views id record {
        setup_is = λ _. refl;
        has = record { seen = whole; told = told; visits = λ _ _. refl; had = whole; kept = λ _ _. refl };
        owner_is = was.owner_is;
        inside = λ node at. rw (← same_some (sym may.inside ∙ at)) record {
          known = here.known;
          alone = here.alone;
          lock = words x ∙ here.lock;
          drawn = λ _. drawn;
          owed = λ _. refl;
          tally = λ _. words _ ∙ o.tallies x here.known
              (tallied_here o id x v me others (λ due _. true≢false (sym due ∙ may.clear)));
        };
        unwritten = λ key put. let node = put_node setting act put ∙ may.at in record {
          cell = may.cell key put;
          inside = may.inside ∙ ap (λ (n : ℕ). Some n) (sym node);
          drawn = refl;
          word = words _ ∙ (o.cells key (may.cell key put)
              (written_here o id v key me others node (λ had. no_some (sym may.unwritten ∙ had)))
              ∙ put_before setup history act put);
        };
        outside = λ out. absurd (some_not_none (sym may.inside ∙ out));
        others = was.others;
      } (λ k u ne there. let old = o.views k u there in
          let same : (actor : ℕ) → StandsForActor u actor → own actor longer ≡ own actor history =
          λ actor st. own-other actor history visit
          (λ e. ne (sym (old.owner_is actor st).0 ∙ (ap o.owner (sym e) ∙ mine.0))) in
          resound ws longer old record {
            seen = grown u.seen old.has.seen;
            told = grown u.told old.has.told;
            visits = λ actor st. same actor st ∙ old.has.visits actor st;
            had = grown u.had old.has.had;
            kept = λ actor st. same actor st ∙ old.has.kept actor st;
          } grown (λ node at none-there. at-push setting node u.visit_count history visit
          (λ e. others k u ne there (at ∙ ap (λ (n : ℕ). Some n) (sym e ∙ may.at))) none-there)
          (λ due. due) (λ _ put. put) (λ node _. words node) (λ node _ _. words _) (λ key _ _ _. words _));
      actors = λ actor below. owned s o.owner id actor v w me refl refl near (o.actors actor below);
      known = λ actor above. own-other actor history visit (λ e. omega (arith, mine.1, above, e)) ∙ o.known actor above;
      few = λ actor. dite (ℕ_discrete v.low actor)
          (λ e. few_more (own actor history) visit (own actor longer) (own-mine history visit e)
          (rw (← e, was.has.visits v.low stands) may.few))
          (λ ne. rw (own-other actor history visit ne) (o.few actor));
      turns = o.turns;
      in_turn = o.in_turn;
      strangers = o.strangers;
      lock_words = λ node known. words node ∙ o.lock_words node known;
      logged = all-logged (log-stays o id v w me refl refl refl refl);
      locks = λ node actor known names. still_held s o.owner id v w me refl refl
          (o.locks node actor known (sym (words node) ∙ names));
      cells = λ key known quiet. words _ ∙ (o.cells key known (λ k u there put. dite (ℕ_discrete k id)
          (λ e. let same = same_view s.views me there e in
          no_some (sym may.unwritten ∙ (ap (λ (y : View). y.unwritten) (sym same) ∙ put)))
          (λ ne. quiet k u (set_else s.views id k w ne ∙ there) put))
          ∙ sym (cell-push setting key history visit
          ∙ word-unput law key (cell setting history key) act (quiet id w (set_here s.views id w near))));
      tallies = λ node known quiet. words _ ∙ (o.tallies node known (λ k u there due at. dite (ℕ_discrete k id)
          (λ e. let same = same_view s.views me there e in
          true≢false (sym due ∙ (ap (λ (y : View). y.owes) same ∙ may.clear)))
          (λ ne. quiet k u (set_else s.views id k w ne ∙ there) due at))
          ∙ sym (ap length (census-push law setting history node visit (dite (ℕ_discrete x node)
          (λ e. inr (not_true (changes_here setting history act) (λ due. quiet id w (set_here s.views id w near) due
          (may.inside ∙ ap (λ (n : ℕ). Some n) e))))
          (λ ne. inl (λ e. ne (sym may.at ∙ e)))))));
      legal = λ sub known. legal_more v sub history act may.may was.has.seen (was.has.visits v.low stands)
          (o.legal sub known);
    }
  where
    few_more : (xs : History) (y : Visit) (zs : History) → zs ≡ xs ++ y ∷ [] → length xs < 2 ^ 56 → length zs ≤ 2 ^ 56
    few_more xs y zs e h = omega (arith, ap length e, length-append xs (y ∷ []))

pub draws : SameKey → (n id : ℕ) {x : ℕ} (m : Seat) {act : Act} → MayDraw m.0 x act
    → Allows (KeepsRule m.0.setup) n id m 0 (λ y. (y + 1) % 2 ^ 64) (DrawsTicket (step n 0 1 0 none) m)
draws law n id {x} m {act} may s o wide me small =
    let v = m.0 in
    let found = slice_index s.words 0 in
    let was = o.views id v me in
    let here = was.inside x may.inside in
    let stands : StandsForActor v v.low = (omega arith, omega (arith, here.alone)) in
    let new : (found + 1) % 2 ^ 64 ≡ suc (length o.history) =
    ap (λ (k : ℕ). (k + 1) % 2 ^ 64) o.tickets
    ∙ no_wrap (length o.history) (few_visits v.setup.actors o.history o.few_actors o.known o.few) in (
      view_with_ticket v x act o.history,
      keeps,
      tt,
      grows law id o me may new,
      λ node other at meant.
          let a : x ≡ node = same_some (sym may.inside ∙ at) in
          let b : act ≡ other = same_some (sym may.intended ∙ meant) in (
            record {
              earlier = o.history;
              count = sym o.tickets;
              few = omega (arith, o.tickets, few_visits v.setup.actors o.history o.few_actors o.known o.few);
              seen = was.has.seen;
              visits = was.has.visits v.low stands;
              puts = λ known. puts-seen (setting_in v.setup) v.low v.seen o.history was.has.seen
                  (was.has.visits v.low stands) (o.legal v.low known);
              view = λ i. view_with_ticket v (a i) (b i) o.history;
              legal = λ sub known. legal_more v sub o.history act may.may was.has.seen
                  (was.has.visits v.low stands) (o.legal sub known);
            },
            refl,
          ),
    )
