-- A caller's lines have runs of its tickets: its finds come one behind another, without a gap.
use Rattle.std.proofs.Common.{◌≡◌, ℕ, suc, ◌≤◌, List, [], ◌∷◌, ◌++◌, length, map, fold, Option, Some, None, refl, ap, sym, ◌∙◌, arith, subst, append_assoc}
use Rattle.std.specs.Prelude.{slice_index}
use Rattle.std.proofs.lemmas.List.{map-append}
use Rattle.directory.specs.Settings.{Setting, subs}
use Rattle.directory.specs.Finds.{FindCall, Pursuit, after_word, answer_of, at_origin, key_of}
use Rattle.directory.specs.Histories.{History, tickets, words_read}
use Rattle.directory.specs.HistoryLaws.{next-caller}
use Rattle.directory.specs.Looks.{look_by}
use Rattle.directory.specs.Orders.{Answer, Caller, IsDone, IsPlayed, Scripts, after_read, caller_at, caller_in, finds_of, key_in, next_key, read_by, with_pursuit}
use Rattle.directory.specs.Outcomes.{answer_line, caller_lines, found_line}
use Rattle.directory.specs.Statements.{CallersCount}
use Rattle.directory.specs.declared.answers.Found.{Found}
use Rattle.directory.specs.declared.answers.Found.TheVariants.{At}
use Rattle.directory.specs.CallLines.{actor_of}
use Rattle.own_reports.proofs.Runs.{HasEnds, HaveRuns, IsRun}
use Rattle.directory.specs.ListLaws.{option_map-none}

-- answers that come one behind another, from a place to an end
abbrev pub AreJoined : ℕ → List Answer → ℕ → Type 0
AreJoined place [] end = place ≡ end
AreJoined place (answer ∷ later) end =
    (place ≡ answer.first) × (answer.first ≤ answer.last) × AreJoined (suc answer.last) later end

joined-more : (place end : ℕ) (answers : List Answer) (answer : Answer) → AreJoined place answers end
    → end ≡ answer.first → answer.first ≤ answer.last
    → AreJoined place (answers ++ answer ∷ []) (suc answer.last)
joined-more place end [] answer joined next le = (joined ∙ next, le, refl)
joined-more place end (other ∷ answers) answer joined next le =
    (joined.0, joined.1, joined-more (suc other.last) end answers answer joined.2 next le)

joined-up : (place end : ℕ) (answers : List Answer) → AreJoined place answers end → place ≤ end
joined-up place end [] joined = omega (arith, joined)
joined-up place end (answer ∷ answers) joined =
    omega (arith, joined.0, joined.1, joined-up (suc answer.last) end answers joined.2)

-- how a caller stands between two words
pub record IsCalling (finds : List FindCall) (caller : Caller) : Type 0 where
  pub joined : AreJoined 0 caller.answers caller.first
  pub low : caller.first ≤ caller.next
  pub ended : caller.calls ≡ [] → caller.first ≡ caller.next
  pub going : answer_of caller.pursuit ≡ None
  pub finds_are : map (λ (answer : Answer). answer.call) caller.answers ++ caller.calls ≡ finds

with-pursuit : (finds later : List FindCall) (caller : Caller) (call : FindCall) (pursuit : Pursuit) (o : Option Found)
    → IsCalling finds caller → caller.calls ≡ call ∷ later → answer_of pursuit ≡ o
    → IsCalling finds (with_pursuit caller call later pursuit o)
with-pursuit finds later caller call pursuit None calling here none = record {
  joined = calling.joined;
  low = omega (arith, calling.low);
  ended = λ over. let bad : call ∷ later ≡ [] = sym here ∙ over in cc;
  going = none;
  finds_are = calling.finds_are;
}
with-pursuit finds later caller call pursuit (Some found) calling here some = record {
  joined = joined-more 0 caller.first caller.answers
      (record { call = call; found = found; first = caller.first; last = caller.next }) calling.joined refl calling.low;
  low = omega arith;
  ended = λ over. refl;
  going = refl;
  finds_are =
      ap (λ (xs : List FindCall). xs ++ later)
      (map-append (λ (answer : Answer). answer.call) caller.answers
      (record { call = call; found = found; first = caller.first; last = caller.next } ∷ []))
      ∙ append_assoc (map (λ (answer : Answer). answer.call) caller.answers) (call ∷ []) later
      ∙ ap (λ (xs : List FindCall). map (λ (answer : Answer). answer.call) caller.answers ++ xs) (sym here)
      ∙ calling.finds_are;
}

read-step : (setting : Setting) (finds calls : List FindCall) (caller : Caller) (word : ℕ) → IsCalling finds caller
    → caller.calls ≡ calls → IsCalling finds (read_by setting caller calls word)
read-step setting finds [] caller word calling here = calling
read-step setting finds (call ∷ later) caller word calling here =
    with-pursuit finds later caller call (after_word setting call caller.pursuit word)
    (answer_of (after_word setting call caller.pursuit word)) calling here refl

read-all : (setting : Setting) (finds : List FindCall) (caller : Caller) (words : List ℕ) → IsCalling finds caller
    → IsCalling finds (fold (after_read setting) caller words)
read-all setting finds caller [] calling = calling
read-all setting finds caller (word ∷ words) calling =
    read-all setting finds (after_read setting caller word) words
    (read-step setting finds caller.calls caller word calling refl)

-- a caller in a history
pub calling-in : (setting : Setting) (scripts : Scripts) (history : History) (actor : ℕ)
    → IsCalling (finds_of setting scripts actor) (caller_in setting scripts history actor)
calling-in setting scripts history actor =
    read-all setting (finds_of setting scripts actor) (caller_at (finds_of setting scripts actor))
    (words_read setting actor history) (record {
      joined = refl;
      low = omega arith;
      ended = λ over. refl;
      going = refl;
      finds_are = refl;
    })

-- a find without its answer wants a cell
wants : (call : FindCall) (pursuit : Pursuit) → answer_of pursuit ≡ None → key_of call pursuit ≡ None → ⊥
wants call at_origin going none = cc
wants call _ going none = cc

no-calls : (calls : List FindCall) (pursuit : Pursuit) → answer_of pursuit ≡ None → key_in calls pursuit ≡ None
    → calls ≡ []
no-calls [] pursuit going none = refl
no-calls (call ∷ later) pursuit going none = absurd (wants call pursuit going none)

-- a caller that is done has no find left
pub finds-over : (setting : Setting) (scripts : Scripts) (history : History) (actor : ℕ) → subs setting ≤ actor
    → IsDone setting scripts history actor → (caller_in setting scripts history actor).calls ≡ []
finds-over setting scripts history actor high done =
    let caller : Caller = caller_in setting scripts history actor in
    no-calls caller.calls caller.pursuit (calling-in setting scripts history actor).going
    (option_map-none (look_by actor) (next_key caller) (sym (next-caller setting scripts history actor high) ∙ done))

found-run : (seen : List ℕ) (actor p e first last : ℕ) (call : FindCall) (found : Found) → HasEnds seen p e first last
    → (actor_of (found_line actor call found first last) ≡ actor)
    × IsRun seen p e (found_line actor call found first last)
found-run seen actor p e first last call (At node number level weight) ends = (refl, ends)
found-run seen actor p e first last call _ ends = (refl, ends)

find-runs : (seen : List ℕ) (actor p : ℕ) (answers : List Answer) → AreJoined p answers (length seen)
    → HaveRuns actor seen p (map (answer_line actor seen) answers)
find-runs seen actor p [] joined = joined
find-runs seen actor p (answer ∷ answers) joined =
    let here = found-run seen actor p answer.last (slice_index seen answer.first) (slice_index seen answer.last)
    answer.call
    answer.found (omega (arith, joined.0, joined.1), ap (slice_index seen) (sym joined.0), refl) in (
      answer.last,
      omega (arith, joined-up (suc answer.last) (length seen) answers joined.2),
      here.0,
      here.1,
      find-runs seen actor (suc answer.last) answers joined.2,
    )

-- the lines of a caller that is done have runs
pub caller-runs : CallersCount → (setting : Setting) (scripts : Scripts) (history : History) (actor : ℕ)
    → subs setting ≤ actor → IsPlayed setting scripts history → IsDone setting scripts history actor
    → HaveRuns actor (tickets actor history) 0 (caller_lines setting scripts history actor)
caller-runs count setting scripts history actor high played done =
    let caller : Caller = caller_in setting scripts history actor in
    let calling : IsCalling (finds_of setting scripts actor) caller = calling-in setting scripts history actor in
    let over : caller.first ≡ length (tickets actor history) =
    calling.ended (finds-over setting scripts history actor high done)
    ∙ (count setting scripts history actor high played).0 in
    find-runs (tickets actor history) actor 0 caller.answers (subst (AreJoined 0 caller.answers) over calling.joined)
