-- The looks of a find: its first ticket and its last are looks of its caller, which put nothing.
use Rattle.std.proofs.Common.{◌≡◌, ℕ, zero, suc, ◌+◌, ◌-◌, ◌<◌, ◌≤◌, ◌&&◌, ◌||◌, Bool, true, false, not, eqb, cond, List, [], ◌∷◌, length, take, drop, Option, Some, None, refl, ap, sym, ◌∙◌, arith, append-nil, inl, inr}
use Rattle.std.specs.Prelude.{slice_get, slice_index, flat_map, option_map}
use Rattle.std.specs.List.{list_any}
use Rattle.std.proofs.lemmas.Bool.{cases_eq, cases_lt, eqb-true, and_parts, or_right}
use Rattle.std.proofs.lemmas.Bool.Decides.{nat_tests}
use Rattle.std.proofs.lemmas.List.Folds.{list_any-append}
use Rattle.std.proofs.lemmas.Option.{slice_get-map}
use Rattle.entry_word.specs.declared.visit.Key.{Key}
use Rattle.entry_word.specs.declared.visit.Visit.{Visit}
use Rattle.directory.specs.Settings.{Setting, start, subs}
use Rattle.directory.specs.Finds.{FindCall, Pursuit, at_origin, ended, find}
use Rattle.directory.specs.Histories.{History, before, is_put_for, own, puts_to, through, words_at}
use Rattle.directory.specs.HistoryLaws.{next-caller, next-sub}
use Rattle.directory.specs.Looks.{AreLooks, IsFind, first_of, last_of, look_by, moves_at, moves_by}
use Rattle.directory.specs.Orders.{IsPlayed, Scripts, caller_in, next, next_key, steps_of}
use Rattle.directory.specs.Courses.{Course, Step, after_step, course_at, move_to}
use Rattle.directory.specs.Outcomes.{caller_lines, outcome_in, step_line, step_lines, sub_lines}
use Rattle.directory.specs.StepLaws.{puts-push, take-more}
use Rattle.directory.specs.Writes.{Write, entry_at, mark_at, numbers_from, step_writes, visit_of, visits, writes}
use Rattle.directory.specs.declared.answers.Done.{Done}
use Rattle.directory.specs.declared.answers.Found.{Found}
use Rattle.report_check.specs.Parts.{is_of, is_of_move, is_switch_at, meets_from, meets_move}
use Rattle.own_reports.proofs.Signs.{lt-true}
use Rattle.own_reports.proofs.Order.{actors_of}
use Rattle.directory.specs.ListLaws.{option_map-some}

-- the visit with a ticket is a look
abbrev pub IsLook : History → ℕ → Type 0
IsLook history t = (actor : ℕ) × (key : Key) × (slice_get history t ≡ Some (look_by actor key))

each-look : (setting : Setting) (history : History) (actor : ℕ) (call : FindCall) (earliest : ℕ) (pursuit : Pursuit)
    (seen : List ℕ) (i : ℕ) → AreLooks setting history actor call earliest pursuit seen → i < length seen
    → IsLook history (slice_index seen i)
unfolding AreLooks
each-look setting history actor call earliest pursuit [] i looks low = absurd (omega (arith, low))
each-look setting history actor call earliest pursuit (t ∷ seen) zero looks low =
    (actor, looks.1.0, looks.1.2)
each-look setting history actor call earliest pursuit (t ∷ seen) (suc i) looks low =
    each-look setting history actor call (suc t) _ seen i looks.1.3 (omega (arith, low))

some-looks : (setting : Setting) (history : History) (call : FindCall) (found : Found) (seen : List ℕ)
    → find setting call (flat_map (words_at setting history) seen) ≡ ended found → 0 < length seen
some-looks setting history call found [] is = let bad : at_origin ≡ ended found = is in cc
some-looks setting history call found (t ∷ seen) is = omega arith

-- the first visit of a find and its last are looks
pub ends-look : (setting : Setting) (history : History) (actor : ℕ) (call : FindCall) (found : Found) (seen : List ℕ)
    → IsFind setting history actor call found seen → IsLook history (first_of seen) × IsLook history (last_of seen)
ends-look setting history actor call found seen is =
    let some : 0 < length seen = some-looks setting history call found seen is.answer in (
      each-look setting history actor call 0 at_origin seen 0 is.looks some,
      each-look setting history actor call 0 at_origin seen (length seen - 1) is.looks (omega (arith, some)),
    )

-- a look is of no move
pub look-moves-not : (history : History) (sub t : ℕ) → IsLook history t → moves_at sub history t ≡ false
look-moves-not history sub t (actor, key, is) = ap (moves_by sub (before t history)) is

-- what is put through a look was put before it
pub look-puts-not : (history : History) (sub t : ℕ) → IsLook history t
    → puts_to sub (through t history) ≡ puts_to sub (before t history)
look-puts-not history sub t (actor, key, is) =
    ap (puts_to sub) (take-more history t (look_by actor key) is)
    ∙ puts-push sub (before t history) (look_by actor key) ∙ append-nil (puts_to sub (before t history))

-- ---- the visits of moves are their subscriber's

put-own : (setting : Setting) (scripts : Scripts) (history : History) (sub t : ℕ) (v : Visit)
    → next setting scripts (before t history) v.actor ≡ Some v → is_put_for sub v.act ≡ true → v.actor ≡ sub
put-own setting scripts history sub t v is put = elim (cases_lt v.actor (subs setting)) [
  | inl low ↦
      let ws : List Write = writes setting (course_at (start setting v.actor)) (steps_of scripts v.actor) in
      let place : ℕ = length (own v.actor (before t history)) in
      let made : (w : Write) × (visit_of v.actor w ≡ v) =
      option_map-some (visit_of v.actor) (slice_get ws place) v
      (sym (slice_get-map (visit_of v.actor) ws place) ∙ sym (next-sub setting scripts (before t history) v.actor low)
      ∙ is) in
      written v.actor made.0 (ap (λ (x : Visit). is_put_for sub x.act) made.1 ∙ put)
  | inr high ↦
      let made : (key : Key) × (look_by v.actor key ≡ v) =
      option_map-some (look_by v.actor) (next_key (caller_in setting scripts (before t history) v.actor)) v
      (sym (next-caller setting scripts (before t history) v.actor high) ∙ is) in
      let bad : false ≡ true = ap (λ (x : Visit). is_put_for sub x.act) made.1 ∙ put in cc
]
  where
    written : (actor : ℕ) (w : Write) → is_put_for sub (visit_of actor w).act ≡ true → actor ≡ sub
    written actor (mark_at node mark) e = eqb-true actor sub e
    written actor (entry_at level cluster address) e = eqb-true actor sub e

move-visit : (sub : ℕ) (seen : History) (o : Option Visit) → moves_by sub seen o ≡ true
    → (v : Visit) × (o ≡ Some v) × (is_put_for sub v.act ≡ true)
move-visit sub seen None is = let bad : false ≡ true = is in cc
move-visit sub seen (Some v) is = (v, refl, (and_parts (is_put_for sub v.act) _ is).0)

-- a visit of a move is one of its subscriber
pub move-own : (setting : Setting) (scripts : Scripts) (history : History) (sub t : ℕ)
    → IsPlayed setting scripts history → moves_at sub history t ≡ true
    → slice_get (actors_of history) t ≡ Some sub
move-own setting scripts history sub t played is =
    let found = move-visit sub (before t history) (slice_get history t) is in
    slice_get-map (λ (visit : Visit). visit.actor) history t
    ∙ ap (option_map (λ (visit : Visit). visit.actor)) found.1
    ∙ ap (λ k. Some k) (put-own setting scripts history sub t found.0 (played t found.0 found.1) found.2)

-- ---- a subscriber that moves has a line

line-own : (setting : Setting) (sub : ℕ) (course : Course) (step : Step) (seen : List ℕ)
    → is_of sub (step_line setting sub course step seen) ≡ true
line-own setting sub course (move_to node) seen = grind (arith, nat_tests)
line-own setting sub course _ seen = grind (arith, nat_tests)

lines-own : (setting : Setting) (sub : ℕ) (course : Course) (steps : List Step) (seen : List ℕ) (k : ℕ) (visit : Visit)
    → slice_get (visits setting sub steps) k ≡ Some visit
    → list_any (is_of sub) (step_lines setting sub course steps seen) ≡ true
unfolding step_lines writes
lines-own setting sub course [] seen k visit is = let bad : None ≡ Some visit = is in cc
lines-own setting sub course (step ∷ steps) seen k visit is =
    ap (λ b. b || list_any (is_of sub) (step_lines setting sub (after_step setting course step) steps
    (drop (length (step_writes setting course step)) seen)))
    (line-own setting sub course step (take (length (step_writes setting course step)) seen))

rows-any : (test : Done → Bool) (lines : ℕ → List Done) (from count actor : ℕ) → from ≤ actor → actor < from + count
    → list_any test (lines actor) ≡ true → list_any test (flat_map lines (numbers_from from count)) ≡ true
rows-any test lines from zero actor low high one = absurd (omega (arith, low, high))
rows-any test lines from (suc count) actor low high one =
    list_any-append test (lines from) (flat_map lines (numbers_from (suc from) count))
    ∙ elim (cases_eq actor from) [
      | inl same ↦ ap (λ b. b || list_any test (flat_map lines (numbers_from (suc from) count)))
          (ap (λ k. list_any test (lines k)) (sym same) ∙ one)
      | inr other ↦ or_right (list_any test (lines from)) _ (rows-any test lines (suc from) count actor
          (omega (arith, other, low)) (omega (arith, high)) one)
    ]

pub has-line : (setting : Setting) (scripts : Scripts) (history : History) (sub t : ℕ) → sub < subs setting
    → IsPlayed setting scripts history → moves_at sub history t ≡ true
    → list_any (is_of sub) (outcome_in setting scripts history).calls ≡ true
has-line setting scripts history sub t known played is =
    let found = move-visit sub (before t history) (slice_get history t) is in
    let whose = put-own setting scripts history sub t found.0 (played t found.0 found.1) found.2 in
    let next_is : next setting scripts (before t history) sub ≡ Some found.0 =
    ap (next setting scripts (before t history)) (sym whose) ∙ played t found.0 found.1 in
    let at : slice_get (visits setting sub (steps_of scripts sub)) (length (own sub (before t history)))
    ≡ Some found.0 =
    sym (next-sub setting scripts (before t history) sub known) ∙ next_is in
    list_any-append (is_of sub) (flat_map (sub_lines setting scripts history) (numbers_from 0 (subs setting))) _
    ∙ ap (λ b. b || list_any (is_of sub)
    (flat_map (caller_lines setting scripts history) (numbers_from (subs setting) (length scripts.finds))))
    (rows-any (is_of sub) (sub_lines setting scripts history) 0 (subs setting) sub (omega arith) (omega (arith, known))
    (lines-own setting sub (course_at (start setting sub)) (steps_of scripts sub) _ _ found.0 at))

-- ---- a find that meets a move

test-move : (sub : ℕ) (b : Bool) → b ≡ false → (eqb sub sub && not b) ≡ true
test-move sub true e = let bad : true ≡ false = e in cc
test-move sub false e = grind (arith, nat_tests)

meets : (calls : List Done) (sub last from t d : ℕ) (later : List ℕ) → t ≡ from + d → slice_get later d ≡ Some sub
    → t < last → list_any (is_switch_at t) calls ≡ false → meets_from calls sub last from later ≡ true
unfolding meets_from
meets calls sub last from t d [] e is low none = let bad : None ≡ Some sub = is in cc
meets calls sub last from t zero (actor ∷ later) e is low none =
    let here : actor ≡ sub = cc in
    let at : t ≡ from = omega (arith, e) in
    let test : is_of_move calls sub from actor ≡ true =
    ap (λ k. is_of_move calls sub from k) here
    ∙ test-move sub (list_any (is_switch_at from) calls) (ap (λ k. list_any (is_switch_at k) calls) (sym at) ∙ none) in
    rw (lt-true from last (omega (arith, at, low)), test) refl
meets calls sub last from t (suc d) (actor ∷ later) e is low none =
    let rest : meets_from calls sub last (suc from) later ≡ true =
    meets calls sub last (suc from) t d later (omega (arith, e)) is low none in
    rw (lt-true from last (omega (arith, e, low))) (either (is_of_move calls sub from actor) _ rest)
  where
    either : (b x : Bool) → x ≡ true → cond b true x ≡ true
    either true x e = refl
    either false x e = e

get-drop : {A : Type 0} (xs : List A) (k t d : ℕ) → t ≡ k + d → slice_get (drop k xs) d ≡ slice_get xs t
get-drop xs zero t d e = ap (slice_get xs) (let s : d ≡ t = omega (arith, e) in s)
get-drop [] (suc k) t d e = refl
get-drop (x ∷ xs) (suc k) zero d e = absurd (omega (arith, e))
get-drop (x ∷ xs) (suc k) (suc t) d e = get-drop xs k t d (omega (arith, e))

-- a visit of a move within a find is one that the checker sees
pub meets-move : (setting : Setting) (scripts : Scripts) (history : History) (calls : List Done) (sub first last t : ℕ)
    → IsPlayed setting scripts history → IsLook history first → IsLook history last → first ≤ t → t ≤ last
    → moves_at sub history t ≡ true → list_any (is_switch_at t) calls ≡ false → list_any (is_of sub) calls ≡ true
    → meets_move calls (actors_of history) sub first last ≡ true
meets-move setting scripts history calls sub first last t played one two low high is none has =
    let begin : first < t = omega (arith, other first one, low) in
    let end : t < last = omega (arith, other last two, high) in
    ap (λ b. b && meets_from calls sub last (suc first) (drop (suc first) (actors_of history))) has
    ∙ meets calls sub last (suc first) t (t - suc first) (drop (suc first) (actors_of history)) (omega (arith, begin))
    (get-drop (actors_of history) (suc first) t (t - suc first) (omega (arith, begin))
    ∙ move-own setting scripts history sub t played is) end none
  where
    other : (k : ℕ) → IsLook history k → k ≡ t → ⊥
    other k look same =
        let bad : false ≡ true = sym (look-moves-not history sub k look) ∙ ap (moves_at sub history) same ∙ is in cc
