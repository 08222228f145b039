-- What a turn adds: to a history, to the lines of a subscriber and to those of a caller.
use Rattle.std.proofs.Common.{◌≡◌, ℕ, ◌-◌, ◌≤◌, List, [], ◌∷◌, ◌++◌, Option, Some, None, length, map, take, drop, refl, sym, ◌∙◌, arith, length-append}
use Rattle.std.specs.Prelude.{slice_index, replicate, option_map, option_to_list, All}
use Rattle.std.proofs.lemmas.Bool.{eq-eqb, cases_lt}
use Rattle.std.proofs.lemmas.List.{append-nil, take_all, take-append-le, drop-append-le, length-drop, map-append, get_or_append_left, get_or_push, nil_from_length, replicate-append-replicate}
use Rattle.std.proofs.lemmas.List.Elements.{All-head, All-tail, All-replicate}
use Rattle.directory.specs.Settings.{Setting}
use Rattle.directory.specs.Histories.{History, cell, tickets}
use Rattle.directory.specs.Courses.{after_step}
use Rattle.directory.specs.Writes.{step_writes, writes}
use Rattle.directory.specs.Finds.{Pursuit, after_word}
use Rattle.directory.specs.Orders.{Scripts, finds_of, Answer, Caller, with_pursuit, caller_in, after_turns, IsDone}
use Rattle.directory.specs.Outcomes.{step_lines, found_line, answer_line}
use Rattle.directory.specs.declared.answers.Found.{Found}
use Rattle.directory.specs.Statements.{TurnsEndAlike, StepLinesGrow, CallersRead, CallerLinesGrow, CallersKept, CallersCount}
use Rattle.directory.proofs.HistoryLaws.{words-push, tickets-push}
use Rattle.directory.proofs.NextLaws.{after_turns-done}
use Rattle.directory.proofs.CallerLaws.{caller-push}
use Rattle.directory.proofs.OrderLaws.{after_turns-append, done-after}
use Rattle.directory.proofs.UnderWay.{IsAnswered, IsUnderWay, under_way}

-- turns of one actor, in two parts
replicate-split : {A : Type 0} (few many : ℕ) (x : A) → few ≤ many
    → replicate many x ≡ replicate few x ++ replicate (many - few) x
replicate-split few many x h = grind (arith, replicate-append-replicate)

-- more turns of an actor that is done
more_turns : (setting : Setting) (scripts : Scripts) (history : History) (actor few many : ℕ) → few ≤ many
    → IsDone setting scripts (after_turns setting scripts history (replicate few actor)) actor
    → after_turns setting scripts history (replicate many actor)
    ≡ after_turns setting scripts history (replicate few actor)
more_turns setting scripts history actor few many h done =
    rw (replicate-split few many actor h, after_turns-append) (after_turns-done setting scripts _ _ (All-replicate
    (IsDone setting scripts (after_turns setting scripts history (replicate few actor))) (many - few) actor done))

pub turns-end : TurnsEndAlike
turns-end setting scripts history actor k played done = grind (arith, cases_lt, more_turns, done-after)

-- the lines of a subscriber
pub step_lines-push : StepLinesGrow
unfolding step_lines writes
step_lines-push setting sub course [] step seen more count size = grind (arith, seen, nil_from_length, take_all)
step_lines-push setting sub course (one ∷ done) step seen more count size = grind (
  arith,
  front,
  back,
  length-drop,
  length-append,
  step_lines-push setting sub (after_step setting course one) done step (drop size_one seen) more (omega (
    arith,
    count,
    length-drop size_one seen,
    length-append (step_writes setting course one) (writes setting (after_step
        setting course one) done),
  )) size,
)
  where
    size_one : ℕ
    size_one = length (step_writes setting course one)

    within : size_one ≤ length seen
    within = grind (arith, length-append)

    front : take size_one (seen ++ more) ≡ take size_one seen
    front = take-append-le size_one seen more within

    back : drop size_one (seen ++ more) ≡ drop size_one seen ++ more
    back = drop-append-le size_one seen more within

-- a caller
pub callers-kept : CallersKept
callers-kept setting scripts history actor visit apart = grind (arith, words-push, append-nil, tickets-push)

pub callers-read : CallersRead
callers-read setting scripts history actor key = grind (arith, words-push, eq-eqb, caller-push)

pub callers-count : CallersCount
callers-count setting scripts history actor high played = grind (arith, under_way)

-- the lines of answers with one ticket more
lines-more : (setting : Setting) (history : History) (actor : ℕ) (seen : List ℕ) (ticket : ℕ) (answers : List Answer)
    → All (IsAnswered setting history actor seen) answers
    → map (answer_line actor (seen ++ ticket ∷ [])) answers ≡ map (answer_line actor seen) answers
lines-more setting history actor seen ticket [] all = refl
lines-more setting history actor seen ticket (answer ∷ answers) all =
    let one = All-head (IsAnswered setting history actor seen) answer answers all in
    grind (
      arith,
      one,
      get_or_append_left,
      lines-more setting history actor seen ticket answers
          (All-tail (IsAnswered setting history actor seen) answer answers all),
    )

pub caller_lines-push : CallerLinesGrow
caller_lines-push setting scripts history actor key call later high played same =
    grind (arith, callers-read, tickets-push, eq-eqb, at_answer)
  where
    caller : Caller
    caller = caller_in setting scripts history actor

    pursuit : Pursuit
    pursuit = after_word setting call caller.pursuit (cell setting history key)

    seen : List ℕ
    seen = tickets actor history

    far : IsUnderWay setting history actor (finds_of setting scripts actor) (tickets actor history) (length history)
        (caller_in setting scripts history actor)
    far = under_way setting scripts history actor high played

    at_end : slice_index (seen ++ length history ∷ []) (length seen) ≡ length history
    at_end = get_or_push seen (length history) 0 (length seen) refl

    at_answer : (o : Option Found)
        → map (answer_line actor (seen ++ length history ∷ [])) (with_pursuit caller call later pursuit o).answers
        ≡ map (answer_line actor seen) caller.answers
        ++ option_to_list (option_map (λ (found : Found). found_line actor call found
        (slice_index (seen ++ length history ∷ []) caller.first) (length history)) o)
    at_answer None = lines-more setting history actor seen (length history) caller.answers far.done
        ∙ sym (append-nil _)
    at_answer (Some found) =
        rw (
          map-append (answer_line actor (seen ++ length history ∷ [])) caller.answers (record {
            call = call;
            found = found;
            first = caller.first;
            last = caller.next;
          } ∷ []),
          lines-more setting history actor seen (length history) caller.answers far.done,
          far.count,
          at_end,
        ) refl
