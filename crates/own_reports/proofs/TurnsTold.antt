-- The tickets of each actor fall into the runs of its lines.
use Rattle.std.proofs.Common.{◌≡◌, inl, inr, ℕ, zero, suc, ◌+◌, ◌<◌, ◌≤◌, ◌==◌, Bool, true, false, cond, ltb, List, [], ◌∷◌, ◌++◌, length, map, drop, refl, ap, sym, ◌∙◌, arith, subst, append-nil}
use Rattle.std.specs.Prelude.{flat_map}
use Rattle.std.specs.List.{list_all}
use Rattle.std.proofs.lemmas.Bool.{and_parts, cases_lt}
use Rattle.std.proofs.lemmas.Bool.Decides.{nat_tests}
use Rattle.std.proofs.lemmas.List.{get_or_past, length-drop, length-map}
use Rattle.std.proofs.lemmas.List.Elements.{filter-append}
use Rattle.directory.specs.CallLines.{actor_of}
use Rattle.directory.specs.Histories.{History, tickets, tickets_from}
use Rattle.directory.specs.Orders.{IsDone, IsPlayed, Scripts}
use Rattle.directory.specs.Outcomes.{caller_lines, outcome_in, sub_lines}
use Rattle.directory.specs.Settings.{Setting, subs}
use Rattle.directory.specs.Statements.{CallersCount, ScriptsInOrder}
use Rattle.directory.specs.Writes.{numbers_from}
use Rattle.directory.specs.declared.answers.Done.{Done}
use Rattle.directory.specs.declared.answers.Done.TheVariants.{Moved, Switched, Found, Off, Again}
use Rattle.net_reader.specs.Input.{Contents}
use Rattle.net_reader.specs.Valid.{IsValid}
use Rattle.net_reader.specs.declared.said.Call.{Call}
use Rattle.report_check.specs.Verdicts.{has_call}
use Rattle.scripts.specs.Scripts.{find_of, scripts_of}
use Rattle.soundness.specs.Turns.{HasRun, TakeTurns, lines_of, tickets_of, tickets_from as order_tickets}
use Rattle.own_reports.proofs.FindRuns.{caller-runs}
use Rattle.own_reports.proofs.Order.{actors_of}
use Rattle.own_reports.proofs.Runs.{HaveRuns, IsRun}
use Rattle.own_reports.proofs.StepRuns.{sub-runs}
use Rattle.own_reports.proofs.Strangers.{no-strangers}

-- the tickets of an actor in an order of visits are those of its visits
tickets-same : (actor ticket : ℕ) (history : History)
    → order_tickets actor ticket (actors_of history) ≡ tickets_from actor ticket history
unfolding order_tickets tickets_from
tickets-same actor ticket [] = refl
tickets-same actor ticket (visit ∷ later) =
    ap (λ (rest : List ℕ). cond (visit.actor == actor) (ticket ∷ rest) rest) (tickets-same actor (suc ticket) later)

-- where each number passes a test, an actor that doesn't has no ticket
none-of : (test : ℕ → Bool) (actor ticket : ℕ) (order : List ℕ) → list_all test order ≡ true
    → test actor ≡ false → order_tickets actor ticket order ≡ []
unfolding order_tickets
none-of test actor ticket [] all none = refl
none-of test actor ticket (other ∷ later) all none =
    let both = and_parts (test other) (list_all test later) all in
    at_test (other == actor) (λ same. absurd (differ same both.0)) (none-of test actor (suc ticket) later both.1 none)
  where
    differ : (other == actor) ≡ true → test other ≡ true → ⊥
    differ same passes =
        let is : other ≡ actor = grind (arith, nat_tests, same) in
        let bad : true ≡ false = sym passes ∙ ap test is ∙ none in absurd cc

    at_test : (b : Bool) → (b ≡ true → ⊥) → order_tickets actor (suc ticket) later ≡ []
        → cond b (ticket ∷ order_tickets actor (suc ticket) later) (order_tickets actor (suc ticket) later) ≡ []
    at_test true none rest = absurd (none refl)
    at_test false none rest = rest

-- a run is told alike
run-is : (seen : List ℕ) (p e : ℕ) (line : Done) → IsRun seen p e line → HasRun seen p e line
run-is seen p e (Moved a n from to w first commit last) run = run
run-is seen p e (Switched a off node n ticket) run = run
run-is seen p e (Found a from sub node n level w first last) run = run
run-is seen p e (Off a from sub node n level w first last) run = run
run-is seen p e (Again a from sub why w first last) run = run

turns-are : (actor : ℕ) (seen : List ℕ) (p : ℕ) (lines : List Done) → HaveRuns actor seen p lines
    → TakeTurns seen p lines
turns-are actor seen p [] runs = runs
turns-are actor seen p (line ∷ later) runs =
    (runs.0, runs.1, run-is seen p runs.0 line runs.3, turns-are actor seen (suc runs.0) later runs.4)

-- of lines with runs all are of their actor, and none of another
own-lines : (actor : ℕ) (seen : List ℕ) (p : ℕ) (lines : List Done) → HaveRuns actor seen p lines
    → lines_of actor lines ≡ lines
own-lines actor seen p [] runs = refl
own-lines actor seen p (line ∷ later) runs =
    let same : (actor_of line == actor) ≡ true = let e : actor_of line ≡ actor = runs.2 in grind (arith, nat_tests) in
    ap (λ b. cond b (line ∷ lines_of actor later) (lines_of actor later)) same
    ∙ ap (λ rest. line ∷ rest) (own-lines actor seen (suc runs.0) later runs.4)

other-lines : (actor other : ℕ) (seen : List ℕ) (p : ℕ) (lines : List Done) → (other ≡ actor → ⊥)
    → HaveRuns other seen p lines → lines_of actor lines ≡ []
other-lines actor other seen p [] differ runs = refl
other-lines actor other seen p (line ∷ later) differ runs =
    let apart : (actor_of line == actor) ≡ false = let e : actor_of line ≡ other = runs.2 in
    grind (arith, nat_tests, differ, e) in
    ap (λ b. cond b (line ∷ lines_of actor later) (lines_of actor later)) apart
    ∙ other-lines actor other seen (suc runs.0) later differ runs.4

-- so it is of the lines of actors, by number
rows-none : (actor : ℕ) (seen : ℕ → List ℕ) (lines : ℕ → List Done) (from count : ℕ)
    → ((other : ℕ) → from ≤ other → other < from + count → HaveRuns other (seen other) 0 (lines other))
    → ((other : ℕ) → from ≤ other → other < from + count → other ≡ actor → ⊥)
    → lines_of actor (flat_map lines (numbers_from from count)) ≡ []
rows-none actor seen lines from zero runs apart = refl
rows-none actor seen lines from (suc count) runs apart =
    filter-append (λ line. actor_of line == actor) (lines from) (flat_map lines (numbers_from (suc from) count))
    ∙ ap (λ (front : List Done). front ++ lines_of actor (flat_map lines (numbers_from (suc from) count)))
    (other-lines actor from (seen from) 0 (lines from) (apart from (omega arith) (omega arith))
    (runs from (omega arith) (omega arith)))
    ∙ rows-none actor seen lines (suc from) count
    (λ other low high. runs other (omega (arith, low)) (omega (arith, high)))
    (λ other low high. apart other (omega (arith, low)) (omega (arith, high)))

rows-own : (actor : ℕ) (seen : ℕ → List ℕ) (lines : ℕ → List Done) (from count : ℕ)
    → ((other : ℕ) → from ≤ other → other < from + count → HaveRuns other (seen other) 0 (lines other))
    → from ≤ actor → actor < from + count
    → lines_of actor (flat_map lines (numbers_from from count)) ≡ lines actor
rows-own actor seen lines from zero runs low high = absurd (omega (arith, low, high))
rows-own actor seen lines from (suc count) runs low high =
    let split = filter-append (λ line. actor_of line == actor) (lines from)
    (flat_map lines (numbers_from (suc from) count)) in
    elim (cases_lt from actor) [
      | inl past ↦
          split
          ∙ ap (λ (front : List Done). front ++ lines_of actor (flat_map lines (numbers_from (suc from) count)))
          (other-lines actor from (seen from) 0 (lines from) (λ same. omega (arith, past, same))
          (runs from (omega arith) (omega arith)))
          ∙ rows-own actor seen lines (suc from) count
          (λ other low high. runs other (omega (arith, low)) (omega (arith, high)))
          (omega (arith, past)) (omega (arith, high))
      | inr here ↦
          let same : from ≡ actor = omega (arith, low, here) in
          split
          ∙ ap (λ (back : List Done). lines_of actor (lines from) ++ back)
          (rows-none actor seen lines (suc from) count
          (λ other low high. runs other (omega (arith, low)) (omega (arith, high)))
          (λ other low high is. omega (arith, low, same, is)))
          ∙ append-nil (lines_of actor (lines from))
          ∙ subst (λ k. lines_of actor (lines k) ≡ lines actor) (sym same)
          (own-lines actor (seen actor) 0 (lines actor) (runs actor low high))
    ]

-- the tickets of each actor of a history that is played to its end
module _ (in_order : ScriptsInOrder) (count : CallersCount) (contents : Contents) (setting : Setting)
    (history : History) (valid : IsValid contents) (starts : setting.starts ≡ contents.homes)
    (played : IsPlayed setting (scripts_of contents) history)
    (done : (actor : ℕ) → IsDone setting (scripts_of contents) history actor) where
  abbrev scripts : Scripts
  scripts = scripts_of contents

  subs-run : (other : ℕ) → 0 ≤ other → other < 0 + subs setting
      → HaveRuns other (tickets other history) 0 (sub_lines setting scripts history other)
  subs-run other low high = sub-runs in_order setting scripts history other (omega (arith, high)) played (done other)

  callers-run : (other : ℕ) → subs setting ≤ other → other < subs setting + length scripts.finds
      → HaveRuns other (tickets other history) 0 (caller_lines setting scripts history other)
  callers-run other low high = caller-runs count setting scripts history other low played (done other)

  abbrev lines_from_subs : List Done
  lines_from_subs = flat_map (sub_lines setting scripts history) (numbers_from 0 (subs setting))

  abbrev lines_from_callers : List Done
  lines_from_callers =
      flat_map (caller_lines setting scripts history) (numbers_from (subs setting) (length scripts.finds))

  two-parts : (actor : ℕ) → lines_of actor (outcome_in setting scripts history).calls
      ≡ lines_of actor lines_from_subs ++ lines_of actor lines_from_callers
  two-parts actor = filter-append (λ line. actor_of line == actor) lines_from_subs lines_from_callers

  no-callers : (actor : ℕ) → actor < subs setting → lines_of actor lines_from_callers ≡ []
  no-callers actor low =
      rows-none actor (λ other. tickets other history) (caller_lines setting scripts history) (subs setting)
      (length scripts.finds) callers-run (λ other from below is. omega (arith, from, is, low))

  no-subs : (actor : ℕ) → subs setting ≤ actor → lines_of actor lines_from_subs ≡ []
  no-subs actor high =
      rows-none actor (λ other. tickets other history) (sub_lines setting scripts history) 0 (subs setting)
      subs-run (λ other from below is. omega (arith, below, is, high))

  -- an actor that the input doesn't have has no call
  stranger : (actor : ℕ) → subs setting + length scripts.finds ≤ actor → has_call contents.scripts actor ≡ false
  stranger actor high =
      let past : length contents.scripts ≤ actor = omega (
        arith,
        high,
        ap length starts,
        length-map (drop (length contents.homes) contents.scripts) (map find_of),
        length-drop (length contents.homes) contents.scripts,
      ) in
      ap (λ (script : List Call). ltb 0 (length script)) (get_or_past contents.scripts actor [] past)

  pub turns-told : (actor : ℕ) → TakeTurns (tickets_of actor (actors_of history)) 0
      (lines_of actor (outcome_in setting scripts history).calls)
  turns-told actor =
      elim (cases_lt actor (subs setting)) [
        | inl low ↦
            told (tickets actor history) (sub_lines setting scripts history actor)
            (tickets-same actor 0 history)
            (two-parts actor
            ∙ ap (λ (back : List Done). lines_of actor lines_from_subs ++ back) (no-callers actor low)
            ∙ append-nil (lines_of actor lines_from_subs)
            ∙ rows-own actor (λ other. tickets other history) (sub_lines setting scripts history) 0 (subs setting)
            subs-run (omega arith) (omega (arith, low)))
            (subs-run actor (omega arith) (omega (arith, low)))
        | inr high ↦ elim (cases_lt actor (subs setting + length scripts.finds)) [
          | inl low ↦
              told (tickets actor history) (caller_lines setting scripts history actor)
              (tickets-same actor 0 history)
              (two-parts actor
              ∙ ap (λ (front : List Done). front ++ lines_of actor lines_from_callers) (no-subs actor high)
              ∙ rows-own actor (λ other. tickets other history) (caller_lines setting scripts history)
              (subs setting) (length scripts.finds) callers-run high low)
              (callers-run actor high low)
          | inr past ↦
              told [] []
              (none-of (has_call contents.scripts) actor 0 (actors_of history)
              (no-strangers contents setting history valid starts played) (stranger actor past))
              (two-parts actor
              ∙ ap (λ (front : List Done). front ++ lines_of actor lines_from_callers) (no-subs actor high)
              ∙ rows-none actor (λ other. tickets other history) (caller_lines setting scripts history)
              (subs setting) (length scripts.finds) callers-run
              (λ other from below is. omega (arith, below, is, past)))
              refl
        ]
      ]
    where
      told : (seen : List ℕ) (lines : List Done) → tickets_of actor (actors_of history) ≡ seen
          → lines_of actor (outcome_in setting scripts history).calls ≡ lines → HaveRuns actor seen 0 lines
          → TakeTurns (tickets_of actor (actors_of history)) 0
          (lines_of actor (outcome_in setting scripts history).calls)
      told seen lines e f runs =
          subst (λ (s : List ℕ). TakeTurns s 0 (lines_of actor (outcome_in setting scripts history).calls)) (sym e)
          (subst (λ (ls : List Done). TakeTurns seen 0 ls) (sym f) (turns-are actor seen 0 lines runs))
