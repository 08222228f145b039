-- The lines of a subscriber are made by its visits: each step's by all the writes of the step. One whose script is done
-- has nothing left to put.
use Rattle.std.proofs.Common.{arith, ◌≡◌, ℕ, ◌<◌, List, [], ◌∷◌, ◌++◌, Some, length, map, take, drop, refl, sym, ap, ◌∙◌, append_assoc, suc}
use Rattle.std.specs.Prelude.{slice_get, All}
use Rattle.std.proofs.lemmas.List.{take_at, drop_at, take-map, drop-map, length-map, map-append, take_all}
use Rattle.std.proofs.lemmas.List.Sums.{fold-append}
use Rattle.std.proofs.lemmas.List.Elements.{All-cons, All-nil}
use Rattle.node_set.specs.Ascending.{IsAscending}
use Rattle.directory.specs.Settings.{Setting, subs, start}
use Rattle.directory.specs.Histories.{History, own, tickets, puts_to}
use Rattle.directory.specs.Courses.{Step, move_to, Course, course_at, after_step, after_steps, MaySteps}
use Rattle.directory.specs.Writes.{Write, step_writes, visit_of, writes}
use Rattle.directory.specs.Orders.{Scripts, steps_of, script_visits, IsPlayed, IsDone}
use Rattle.directory.specs.Outcomes.{step_line, step_lines, sub_lines, IsStepLine, IsMade}
use Rattle.directory.proofs.NextLaws.{played-own, played-puts}
use Rattle.directory.proofs.HistoryLaws.{tickets-tell, tickets-ascend, ascending_take, ascending_drop}
use Rattle.directory.specs.HistoryLaws.{next-sub}
use Rattle.directory.specs.StepLaws.{past-end, visits_in}
use Rattle.std.proofs.lemmas.Simd.{map-map}
use Rattle.std.proofs.Math.Seq.{drop-length}
use Rattle.entry_word.specs.Marks.{MarksUnpack}
use Rattle.entry_word.specs.declared.visit.Visit.{Visit}
use Rattle.directory.specs.Puts.{steps_from}
use Rattle.directory.specs.Statements.{DoneIsRest, DoneShowsScript}
use Rattle.directory.proofs.StepLaws.{IsCourse, course-after, one-begun}

-- the first visits of some are those of the first writes, and the others those of the others
parted : (history : History) (sub : ℕ) (seen : List ℕ) (xs ys : List Write)
    → map (slice_get history) seen ≡ map (λ write. Some (visit_of sub write)) (xs ++ ys)
    → (map (slice_get history) (take (length xs) seen) ≡ map (λ write. Some (visit_of sub write)) xs)
    × (map (slice_get history) (drop (length xs) seen) ≡ map (λ write. Some (visit_of sub write)) ys)
parted history sub seen xs ys h =
    grind (arith, take-map (slice_get history), drop-map (slice_get history), take_at, length-map, drop_at, map-append)

-- the lines of a subscriber
step_made : (setting : Setting) (scripts : Scripts) (history : History) (sub : ℕ) (course : Course) (step : Step)
    (seen : List ℕ)
    → IsStepLine setting scripts history sub (step_line setting sub course step seen)
    → IsMade setting scripts history (step_line setting sub course step seen)
step_made setting scripts history sub course (move_to node) seen h = h
step_made setting scripts history sub course _ seen h = h

steps_made : (setting : Setting) (scripts : Scripts) (history : History) (sub : ℕ) (done left : List Step)
    (seen : List ℕ) → steps_of scripts sub ≡ done ++ left → IsAscending seen
    → map (slice_get history) seen ≡ map (λ write. Some (visit_of sub write))
    (writes setting (after_steps setting (course_at (start setting sub)) done) left)
    → All (IsMade setting scripts history) (step_lines setting sub
    (after_steps setting (course_at (start setting sub)) done) left seen)
unfolding step_lines writes
steps_made setting scripts history sub done [] seen script ascending made = All-nil (IsMade setting scripts history)
steps_made setting scripts history sub done (step ∷ left) seen script ascending made =
    All-cons (IsMade setting scripts history) _ _
    (step_made setting scripts history sub course step (take count seen) (record {
      before = done;
      step = step;
      later = left;
      seen = take count seen;
      script = script;
      ascending = ascending_take count seen ascending;
      made = parts.0;
      tells = refl;
    }))
    (rw further at (steps_made setting scripts history sub (done ++ step ∷ []) left (drop count seen)
    (script ∙ sym (append_assoc done (step ∷ []) left)) (ascending_drop count seen ascending)
    (rw further parts.1)))
  where
    course : Course
    course = after_steps setting (course_at (start setting sub)) done

    count : ℕ
    count = length (step_writes setting course step)

    further : after_steps setting (course_at (start setting sub)) (done ++ step ∷ []) ≡ after_step setting course step
    further = fold-append (after_step setting) (course_at (start setting sub)) done (step ∷ [])

    parts : (map (slice_get history) (take count seen)
        ≡ map (λ write. Some (visit_of sub write)) (step_writes setting course step))
        × (map (slice_get history) (drop count seen) ≡ map (λ write. Some (visit_of sub write))
        (writes setting (after_step setting course step) left))
    parts = parted history sub seen (step_writes setting course step)
        (writes setting (after_step setting course step) left) made

-- a subscriber that is done has made all visits of its script
pub own-all : (setting : Setting) (scripts : Scripts) (history : History) (sub : ℕ) → sub < subs setting
    → IsPlayed setting scripts history → IsDone setting scripts history sub
    → own sub history ≡ script_visits setting scripts sub
own-all setting scripts history sub below played done =
    played-own setting scripts history sub below played
    ∙ take_all (length (own sub history)) (script_visits setting scripts sub)
    (grind (arith, past-end, next-sub))

pub sub_made : (setting : Setting) (scripts : Scripts) (history : History) (sub : ℕ) → sub < subs setting
    → IsPlayed setting scripts history → IsDone setting scripts history sub
    → All (IsMade setting scripts history) (sub_lines setting scripts history sub)
sub_made setting scripts history sub below played done =
    steps_made setting scripts history sub [] (steps_of scripts sub) (tickets sub history) refl
    (tickets-ascend sub history)
    (tickets-tell sub history ∙ grind (arith, own-all, map-map))

-- all visits of steps that may come show these steps
all-shown : MarksUnpack → (setting : Setting) (sub : ℕ) (course : Course) (steps : List Step)
    → IsCourse setting course → MaySteps setting course steps
    → steps_from course.is_off (visits_in setting sub course steps) ≡ steps
unfolding writes steps_from MaySteps
all-shown unpacks setting sub course [] sound may = refl
all-shown unpacks setting sub course (step ∷ steps) sound may =
    ap (steps_from course.is_off) whole
    ∙ (one-begun unpacks setting sub course step (length mine) rest sound may.0
    ∙ ap (λ xs. step ∷ xs) (all-shown unpacks setting sub (after_step setting course step) steps
    (course-after setting course step sound may.0) may.1))
  where
    mine : List Visit
    mine = map (visit_of sub) (step_writes setting course step)

    rest : List Visit
    rest = visits_in setting sub (after_step setting course step) steps

    whole : visits_in setting sub course (step ∷ steps) ≡ take (suc (length mine)) mine ++ rest
    whole = grind (arith, map-append, rest, take_all, mine)

-- all visits of a script are made
all-put : (setting : Setting) (scripts : Scripts) (history : History) (sub : ℕ) → sub < subs setting
    → IsPlayed setting scripts history → IsDone setting scripts history sub
    → puts_to sub history ≡ script_visits setting scripts sub
all-put setting scripts history sub known played done =
    played-puts setting scripts history sub known played ∙ own-all setting scripts history sub known played done

-- so nothing is left to put, and its puts show its steps
pub done-rests : MarksUnpack → DoneIsRest
done-rests unpacks setting scripts history sub low valid known played done =
    grind (arith, all-put, all-shown, drop-length)

pub done-shows : MarksUnpack → DoneShowsScript
done-shows unpacks setting scripts history sub low valid known played done = grind (arith, all-put, all-shown)
