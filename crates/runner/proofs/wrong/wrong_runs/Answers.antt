use Rattle.std.proofs.Common.{◌≡◌, ◌≤◌, ℕ, List, [], ◌∷◌, refl, sym, ap, ◌∙◌, subst, arith}
use Rattle.std.specs.Prelude.{slice_index}
use Rattle.directory.specs.Histories.{History, IsFront, own, words_after}
use Rattle.directory.specs.Orders.{IsPlayed}
use Rattle.directory.specs.Outcomes.{Outcome, outcome_of, step_lines}
use Rattle.directory.specs.Writes.{writes}
use Rattle.directory.specs.declared.answers.Done.{Done}
use Rattle.entry_word.specs.declared.visit.Visit.{Visit}
use Rattle.scripts.specs.Scripts.{scripts_of}
use Rattle.station.specs.Setup.{setting_in}
use Rattle.station.specs.declared.view.View.{View}
use Rattle.runner.specs.Examples.{count_by, idle_input, line_setup, switching_input}
use Rattle.runner.specs.Roles.{HasBegunNone}
use Rattle.runner.specs.Runs.{actors_of}
use Rattle.runner.proofs.Idle.{idle-next}
use Rattle.runner.proofs.wrong.wrong_runs.Goals as goal

some-no : (visit : Visit) → ◌≡◌ {A = List Visit} (visit ∷ []) [] → ⊥
some-no visit e = cc

number-no : (n : ℕ) → ◌≡◌ {A = List ℕ} (n ∷ []) [] → ⊥
number-no n e = cc

pub returns-clause-few : goal.returns-clause-few
returns-clause-few c = λ tracker worker its. let e : ◌≡◌ {A = ℕ} 1 2 = its.count in omega (arith, e)

pub returns-clause-swapped : goal.returns-clause-swapped
returns-clause-swapped c = λ input tracker worker other seen its.
    omega (arith, (its.each 0 worker refl).1, seen.low)

pub returns-clause-serves : goal.returns-clause-serves
returns-clause-serves c = λ input tracker worker other its. (its.each 1 other refl).0

pub returns-clause-visited : goal.returns-clause-visited
returns-clause-visited c = λ tracker worker seen fresh.
    some-no (count_by 0) (sym seen.seen_is ∙ ap (λ (v : View). v.seen) (fresh 0 worker refl).view)

pub returns-clause-turned : goal.returns-clause-turned
returns-clause-turned c = λ tracker worker lost fresh.
    cc (sym lost ∙ ap (λ (v : View). v.lost) (fresh 0 worker refl).view)

pub returns-clause-counted : goal.returns-clause-counted
returns-clause-counted c = λ tracker worker one fresh. omega (arith, one, (fresh 0 worker refl).made)

pub returns-clause-begun : goal.returns-clause-begun
returns-clause-begun c = λ tracker worker mover is one fresh.
    let none : mover.begun ≡ 0 = subst HasBegunNone is (fresh 0 worker refl).role in omega (arith, one, none)

pub returns-clause-done : goal.returns-clause-done
returns-clause-done c = λ tracker worker finder is one fresh.
    let none : finder.done ≡ 0 = subst HasBegunNone is (fresh 0 worker refl).role in omega (arith, one, none)

pub returns-clause-home : goal.returns-clause-home
returns-clause-home c = λ setup plan distances set other.
    let e : ◌≡◌ {A = ℕ} 2 3 = ap (λ (xs : List ℕ). slice_index xs 0) (sym other ∙ set.homes) in omega (arith, e)

pub returns-clause-actors : goal.returns-clause-actors
returns-clause-actors c = λ setup plan distances set three.
    let two : setup.actors ≡ 2 = set.actors in omega (arith, two, three)

pub returns-clause-unheard : goal.returns-clause-unheard
returns-clause-unheard c = λ input setup worker outcome seen run none.
    let no : IsFront (count_by 1 ∷ []) [] = rw (none, seen.seen_is) at (run.seen 0 worker refl) in cc

pub returns-clause-more : goal.returns-clause-more
returns-clause-more c = λ input setup worker outcome seen run one.
    let same : own 0 run.history ≡ own 0 worker.pass.view.seen = run.visits 0 worker refl in
    let mine : own 0 run.history ≡ count_by 0 ∷ [] = ap (λ (h : History). own 0 h) one in
    let none : own 0 worker.pass.view.seen ≡ [] = ap (λ (h : History). own 0 h) seen.seen_is in
    some-no (count_by 0) (sym mine ∙ (same ∙ none))

pub returns-clause-stranger : goal.returns-clause-stranger
returns-clause-stranger c = λ input setup worker outcome run one.
    let mine : own 1 run.history ≡ count_by 1 ∷ [] = ap (λ (h : History). own 1 h) one in
    let at : 1 ≤ 1 = omega arith in
    some-no (count_by 1) (sym mine ∙ run.known 1 at)

pub returns-clause-unplayed : goal.returns-clause-unplayed
returns-clause-unplayed c = λ workers outcome run one.
    let played = subst (λ (h : History). IsPlayed (setting_in line_setup) (scripts_of idle_input) h) one run.played in
    cc (sym idle-next ∙ played 0 (count_by 1) refl)

idle : (outcome_of (setting_in line_setup) (scripts_of idle_input) []).order ≡ []
unfolding writes words_after
idle = refl

idle-still : (outcome_of (setting_in line_setup) (scripts_of idle_input) (1 ∷ [])).order ≡ []
unfolding writes words_after
idle-still = refl

pub returns-clause-outcome : goal.returns-clause-outcome
returns-clause-outcome c = λ workers outcome run none one.
    let is : outcome ≡ outcome_of (setting_in line_setup) (scripts_of idle_input) [] =
    run.outcome_is
    ∙ ap (λ (h : History). outcome_of (setting_in line_setup) (scripts_of idle_input) (actors_of h)) none in
    number-no 1 (sym one ∙ (ap (λ (o : Outcome). o.order) is ∙ idle))

pub returns-clause-unmade : goal.returns-clause-unmade
returns-clause-unmade c = λ its.
    let e : ◌≡◌ {A = List ℕ} (1 ∷ []) (outcome_of (setting_in line_setup) (scripts_of idle_input) (1 ∷ [])).order =
    ap (λ (o : Outcome). o.order) (its.is
    ∙ ap (λ (order : List ℕ). outcome_of (setting_in line_setup) (scripts_of idle_input) order) (sym its.printed)) in
    number-no 1 (e ∙ idle-still)

switched : (line : Done) × ((outcome_of (setting_in line_setup) (scripts_of switching_input) (0 ∷ [])).calls
    ≡ line ∷ [])
unfolding writes step_lines words_after
switched = (_, refl)

pub returns-clause-left_out : goal.returns-clause-left_out
returns-clause-left_out c = λ its.
    let e : ◌≡◌ {A = List Done} [] (outcome_of (setting_in line_setup) (scripts_of switching_input) (0 ∷ [])).calls =
    ap (λ (o : Outcome). o.calls) (its.is
    ∙ ap (λ (order : List ℕ). outcome_of (setting_in line_setup) (scripts_of switching_input) order)
    (sym its.printed)) in
    cc (e ∙ switched.1)
