-- What a handset puts next, and how it moves the tally of its node.
use Rattle.std.proofs.Common.{◌≡◌, ◌≢◌, ℕ, zero, suc, ◌+◌, ◌^◌, ◌<◌, ◌≤◌, eq-eqb, ne_eqb, Bool, true, false, not, List, [], ◌∷◌, ◌++◌, length, take, refl, sym, ap, ◌∙◌, subst, arith, Option, Some, None, length-append}
use Rattle.std.specs.Prelude.{slice_get, IfSome, option_map, if◌then◌else◌, unwrap_or}
use mathlib.Core.Logic.{dite}
use native.Mathlib.Decide.{ℕ_discrete}
use Rattle.node_set.specs.Ascending.{sift}
use Rattle.entry_word.specs.Marks.{mark_in, says_here}
use Rattle.entry_word.specs.declared.mark.PresenceMark.TheVariants.{Empty, Here, Gone, Coming as ComingMark}
use Rattle.entry_word.specs.declared.visit.Key.{Key}
use Rattle.entry_word.specs.declared.visit.Key.TheVariants.{Presence, Entry}
use Rattle.entry_word.specs.declared.visit.Act.TheVariants.{Put}
use Rattle.entry_word.specs.declared.visit.Visit.{Visit}
use Rattle.directory.specs.Settings.{Setting, subs}
use Rattle.directory.specs.Keys.{key_sub, key_node}
use Rattle.directory.specs.Histories.{History, cell, changes_here, own, puts_to}
use Rattle.directory.specs.Census.{census}
use Rattle.directory.specs.Legal.{IsLegal}
use Rattle.directory.specs.Statements.{ScriptsAreLegal}
use Rattle.directory.specs.Writes.{Write, mark_at, visit_of, visits, write_key, write_word, new_address}
use Rattle.region_plan.specs.Plan.{PlanData, nodes_of, levels_of}
use Rattle.region_plan.specs.Settings.{setting_of}
use Rattle.region_plan.specs.Cells.{IsPlace}
use Rattle.visit_log.specs.Cells.{HasHomes}
use Rattle.handset.specs.Condition.{GoesWith, HandsetData, IsMoveStage}
use Rattle.handset.specs.StepWrites.{due, due_at, erasure, switch_mark}
use Rattle.handset.specs.Stands.{StandsForSteps}
use Rattle.handset.specs.declared.stage.Stage.{Stage}
use Rattle.handset.specs.declared.stage.Stage.TheVariants.{Resting, Coming, Renewing, Committing, Confirming, Erasing, Purging, Switching}
use Rattle.station.specs.Setup.{Setup, setting_in, subs_in, IsCellOf}
use Rattle.station.specs.Handsets.{HandsetGoesOn, IsHandsetOf, Moves, moves_here, put_of}
use Rattle.station.specs.Plays.{view_inside}
use Rattle.station.specs.Visits.{MayDraw}
use Rattle.station.specs.declared.view.TurnEvent.{TurnEvent}
use Rattle.station.specs.declared.view.View.{View}
use Rattle.station.proofs.Growing.{cell-push}
use Rattle.station.specs.PutLaws.{puts-append}
use Rattle.node_set.specs.SetLaws.{length-passing-le, passing_same}
use Rattle.station.proofs.Laying.{passing-more}
use Rattle.directory.specs.StepLaws.{take-more, key_sub-of_write}

-- a put that is due: into a cell of its subscriber
pub record IsDue (plan : PlanData) (sub : ℕ) (visit : Visit) : Type 0 where
  pub key : Key
  pub word : ℕ
  pub act : visit.act ≡ Put key word
  pub actor : visit.actor ≡ sub
  pub key_of : key_sub key ≡ sub
  pub place : IsPlace plan key

from_write : {plan : PlanData} (sub : ℕ) (w : Write) {visit : Visit} → Some (visit_of sub w) ≡ Some visit
    → IsPlace plan (write_key sub w) → IsDue plan sub visit
from_write {plan} sub w {visit} e place =
    let same : visit_of sub w ≡ visit = ap (λ o. unwrap_or o (visit_of sub w)) e in
    subst (λ (v : Visit). IsDue plan sub v) same
    record {
      key = write_key sub w;
      word = write_word w;
      act = refl;
      actor = refl;
      key_of = key_sub-of_write sub w;
      place = place;
    }

due_by : {plan : PlanData} {handset : HandsetData} {visit : Visit} → GoesWith plan handset → HasHomes plan
    → (stage : Stage) → IsMoveStage (nodes_of plan) handset.last stage
    → option_map (visit_of handset.sub) (due_at (setting_of plan []) handset stage) ≡ Some visit
    → IsDue plan handset.sub visit
due_by g homes Resting within e = cc
due_by {handset} g homes Coming within e =
    from_write handset.sub (mark_at handset.last.to (ComingMark handset.last.number handset.last.from)) e g.to
due_by {plan} {handset} g homes (Renewing level) within e =
    let low : level < levels_of plan = omega (arith, within, g.renewed) in
    from_write handset.sub (new_address (setting_of plan []) handset.last level) e
    (low, homes level handset.last.to low g.to)
due_by {handset} g homes Committing within e =
    from_write handset.sub (mark_at handset.last.from (Gone handset.last.number handset.last.to)) e g.from
due_by {handset} g homes Confirming within e =
    from_write handset.sub (mark_at handset.last.to (Here handset.last.number)) e g.to
due_by {plan} {handset} g homes (Erasing level) within e =
    let low : level < levels_of plan = omega (arith, within, g.renewed) in
    from_write handset.sub (erasure (setting_of plan []) handset level) e (
      low,
      homes level _ low (g.inside level low),
    )
due_by {handset} g homes (Purging node) within e = from_write handset.sub (mark_at node Empty) e within
due_by {handset} g homes (Switching off) within e = from_write handset.sub (switch_mark handset off) e g.place

pub due_is : {plan : PlanData} {handset : HandsetData} {visit : Visit} → GoesWith plan handset → HasHomes plan
    → due (setting_of plan []) handset ≡ Some visit → IsDue plan handset.sub visit
due_is {handset} g homes e = due_by g homes handset.stage g.stage e

-- the next put of a handset keeps what its pass has seen legal
pub due_legal : ScriptsAreLegal → {setup : Setup} {view : View} {handset : HandsetData} (key : Key) (word : ℕ)
    → (setting_in setup).nodes ≤ 2 ^ 16 → (h : IsHandsetOf setup view handset)
    → slice_get (visits (setting_in setup) handset.sub h.steps) (length (puts_to view.low view.seen)) ≡ Some
    (put_of view.low key word) → key_sub key ≡ view.low
    → IsLegal (setting_in setup) view.low (view.seen ++ put_of view.low key word ∷ [])
due_legal law {setup} {view} key word low h next mine =
    let setting = setting_in setup in
    let visit : Visit = put_of view.low key word in
    let made = length (puts_to view.low view.seen) in
    let vs = visits setting view.low h.steps in
    let next' = rw h.sub at next in
    let puts : puts_to view.low (view.seen ++ visit ∷ []) ≡ take (suc made) vs =
    grind (arith, puts-append, eq-eqb, take-more) in
    rw puts (law setting view.low h.steps (suc made) low h.script)

-- the handset after its put is the handset of the pass after its visit
pub handset_after : {setup : Setup} {view : View} (after : View) {handset new : HandsetData} (key : Key) (word : ℕ)
    (earlier : History) → (h : IsHandsetOf setup view handset)
    → slice_get (visits (setting_in setup) handset.sub h.steps) (length (puts_to view.low view.seen)) ≡ Some
    (put_of view.low key word) → key_sub key ≡ view.low → after.low ≡ view.low
    → after.seen ≡ earlier ++ put_of view.low key word ∷ [] → puts_to view.low earlier ≡ puts_to view.low view.seen
    → GoesWith setup.plan new → new.sub ≡ handset.sub → StandsForSteps (setting_in setup) new h.steps
    (suc (length (puts_to view.low view.seen))) → HandsetGoesOn setup view after new h.steps (put_of view.low key word)
handset_after {setup} {view} after {new} key word earlier h next mine low seen puts goes sub stands =
    let setting = setting_in setup in
    let visit : Visit = put_of view.low key word in
    let made = length (puts_to view.low view.seen) in
    let vs = visits setting view.low h.steps in
    let next' = rw h.sub at next in
    let now : puts_to after.low after.seen ≡ puts_to view.low view.seen ++ visit ∷ [] =
    grind (arith, puts-append, eq-eqb) in
    let count : length (puts_to after.low after.seen) ≡ suc made = grind (arith, length-append) in
    let whole : puts_to after.low after.seen ≡ take (suc made) vs = grind (arith, take-more) in
    record {
      own = grind arith;
      steps_are = refl;
      puts = now;
    }

-- a census gains one, or loses one
pub passing-gains : (f g : ℕ → Bool) (v n k : ℕ) → v ≤ k → k < v + n → ((s : ℕ) → s ≢ k → f s ≡ g s)
    → f k ≡ false → g k ≡ true
    → length (sift g v n) ≡ length (sift f v n) + 1
passing-gains f g v zero k low high same off on = absurd (omega arith)
passing-gains f g v (suc n) k low high same off on =
    let more = passing-more f v n in
    let more' = passing-more g v n in
    dite (ℕ_discrete (v + n) k)
    (λ e. let rest = passing_same f g v n (λ s _ below. same s (λ is. omega (arith, e, is, below))) in grind arith)
    (λ ne. grind (arith, passing-gains f g v n k low (omega (arith, high, ne)) same off on))

-- whether a subscriber is at a node
abbrev was_here : Setting → History → ℕ → ℕ → Bool
was_here setting history node sub = says_here (mark_in (cell setting history (Presence node sub)))

put-here : (setting : Setting) (earlier : History) (node sub word actor : ℕ)
    → was_here setting (earlier ++ put_of actor (Presence node sub) word ∷ []) node sub ≡ says_here (mark_in word)
put-here setting earlier node sub word actor = rw (
  cell-push setting (Presence node sub) earlier (put_of actor (Presence node sub) word),
  eq-eqb node node refl,
  eq-eqb sub sub refl,
) refl

put-else : (setting : Setting) (earlier : History) (node sub word actor s : ℕ) → s ≢ sub
    → was_here setting (earlier ++ put_of actor (Presence node sub) word ∷ []) node s ≡ was_here setting earlier node s
put-else setting earlier node sub word actor s ne = rw (
  cell-push setting (Presence node s) earlier (put_of actor (Presence node sub) word),
  eq-eqb node node refl,
  ne_eqb s sub ne,
) refl

-- the tally that a put owes
pub moves : (setup : Setup) (view : View) (earlier : History) {node old : ℕ} (new actor : ℕ) (key : Key)
    → key_sub key < subs_in setup → key_node (setting_in setup) key ≡ node
    → view.seen ≡ earlier ++ put_of actor key new ∷ [] → view.owes ≡ changes_here (setting_in setup) earlier
    (Put key new) → view.tally ≡ length (census (setting_in setup) earlier node)
    → old ≡ cell (setting_in setup) earlier key → Moves setup view node key old new
moves setup view earlier new actor (Entry level cluster sub) known at seen owes tally is = grind arith
moves setup view earlier {node} new actor (Presence place sub) known at seen owes tally is =
    let setting = setting_in setup in
    let later : History = earlier ++ put_of actor (Presence place sub) new ∷ [] in
    let was : Bool = was_here setting earlier place sub in
    let is_now : was_here setting later place sub ≡ says_here (mark_in new) =
    put-here setting earlier place sub new actor in
    record {
      owes = owes ∙ ap (λ w. moves_here (Presence place sub) w new) (sym is);
      more = λ due on. ap (λ (h : History). length (census setting h node)) seen
          ∙ (subst (λ (n : ℕ). length (census setting later n) ≡ length (census setting earlier n) + 1) at
          (passing-gains (was_here setting earlier place) (was_here setting later place) 0 (subs setting) sub
          (omega arith) (omega arith) (λ s ne. sym (put-else setting earlier place sub new actor s ne))
          (gained was (says_here (mark_in new)) (sym owes ∙ due) on) (is_now ∙ on))
          ∙ ap (λ (k : ℕ). k + 1) (sym tally));
      less = λ due off. ap (λ (h : History). length (census setting h node) + 1) seen
          ∙ (subst (λ (n : ℕ). length (census setting later n) + 1 ≡ length (census setting earlier n)) at
          (sym (passing-gains (was_here setting later place) (was_here setting earlier place) 0 (subs setting) sub
          (omega arith) (omega arith) (λ s ne. put-else setting earlier place sub new actor s ne) (is_now ∙ off)
          (lost was (says_here (mark_in new)) (sym owes ∙ due) off)))
          ∙ sym tally);
    }
  where
    gained : (a b : Bool) → (if a then not b else b) ≡ true → b ≡ true → a ≡ false
    gained a b e h = grind arith

    lost : (a b : Bool) → (if a then not b else b) ≡ true → b ≡ false → a ≡ true
    lost a b e h = grind arith

pub census-short : (setting : Setting) (history : History) (node : ℕ)
    → length (census setting history node) ≤ subs setting
census-short setting history node = grind (arith, length-passing-le)

pub may_put : (view : View) {node : ℕ} {key : Key} (word : ℕ) (log : List TurnEvent) → view.has_drawn ≡ false
    → view.unwritten ≡ None → view.owes ≡ false → node ≡ key_node (setting_in view.setup) key
    → length (own view.low view.seen) < 2 ^ 56 → IsCellOf view.setup key → key_sub key ≡ view.low
    → IsLegal (setting_in view.setup) view.low (view.seen ++ put_of view.low key word ∷ [])
    → MayDraw (view_inside view node (Put key word) log) node (Put key word)
may_put view {node} {key} word log undrawn unwritten clear at few cell mine legal = grind arith

-- what holds of a put of the subscriber holds of the one that is due
pub put_due : {o : Option Visit} {sub low : ℕ} (key : Key) (word : ℕ) (P : Visit → Type 0)
    → o ≡ Some (put_of sub key word) → sub ≡ low → P (put_of low key word) → IfSome o P
put_due key word P e same h = rw (e, same) h
