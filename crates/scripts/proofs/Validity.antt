-- The scripts of a valid input are valid.
use Rattle.std.proofs.Common.{◌≡◌, ℕ, ◌+◌, ◌-◌, ◌<◌, ◌^◌, Bool, true, false, List, [], ◌∷◌, length, map, take, drop, get_or, refl, sym, ap, ◌∙◌, subst, arith}
use Rattle.std.specs.Prelude.{All}
use Rattle.std.proofs.lemmas.List.{get_or_default, get_or-drop, length-map, length-drop, length-take-le, length_push}
use Rattle.std.proofs.lemmas.List.Elements.{All-map}
use Rattle.std.proofs.lemmas.List.Sums.{fold-append}
use Rattle.directory.specs.Settings.{Setting, start, subs}
use Rattle.directory.specs.Courses.{Course, MaySteps, Move, after_step, course_at, last_stop, move_to, next_move, switch_off, switch_on}
use Rattle.directory.specs.Legal.{IsScript}
use Rattle.directory.specs.Orders.{IsFindCall, steps_of}
use Rattle.net_reader.specs.declared.said.Call.{Call}
use Rattle.net_reader.specs.declared.said.Call.TheVariants as calls
use Rattle.net_reader.specs.Valid.{IsCourse, IsSearch}
use Rattle.scripts.specs.Scripts.{find_of, scripts_of, step_of}
use Rattle.scripts.specs.Laws.{ScriptsAreValid}
use Rattle.scripts.specs.ScriptLaws.{calls-few, steps-are}

-- a course of calls may be made
course-may : (setting : Setting) (course : Course) (format here : ℕ) (off : Bool) (script : List Call)
    → IsCourse format setting.nodes here off script → last_stop course ≡ here → course.is_off ≡ off
    → length course.moves + length script < 2 ^ 32 - 1 → MaySteps setting course (map step_of script)
unfolding MaySteps
course-may setting course format here off [] its stops state few = tt
course-may setting course format here off (calls.Move to ∷ script) its stops state few = (
  record {
    inside = its.1;
    moving = λ same. its.2 (same ∙ stops);
    is_on = state ∙ its.0;
    few = omega (arith, few);
  },
  course-may setting (after_step setting course (move_to to)) format to off script its.3
      (fold-append (λ node (m : Move). m.to) course.start course.moves (next_move setting course to ∷ [])) state
      (omega (arith, few, length_push course.moves (next_move setting course to))),
)
course-may setting course format here off (calls.Find from sub ∷ script) its stops state few = absurd its
course-may setting course format here off (calls.Off ∷ script) its stops state few = (
  state ∙ its.1,
  course-may setting (after_step setting course switch_off) format here true script its.2 stops refl
      (omega (arith, few)),
)
course-may setting course format here off (calls.On ∷ script) its stops state few = (
  state ∙ its.1,
  course-may setting (after_step setting course switch_on) format here false script its.2 stops refl
      (omega (arith, few)),
)

-- a search is a find from a node of a subscriber
search-means : (setting : Setting) (call : Call) → IsSearch setting.nodes (subs setting) call
    → IsFindCall setting (find_of call)
search-means setting (calls.Move to) its = absurd its
search-means setting (calls.Find from sub) its = record { inside = its.0; known = its.1 }
search-means setting calls.Off its = absurd its
search-means setting calls.On its = absurd its

-- the scripts of a valid input are valid
pub scripts-valid : ScriptsAreValid
scripts-valid input setting valid over =
    record {
      some = omega (arith, valid.some_homes, count);
      count = length-map (take (length input.homes) input.scripts) (map step_of)
          ∙ (length-take-le (length input.homes) input.scripts (omega (arith, valid.scripts)) ∙ sym count);
      steps = λ sub low. one sub (omega (arith, low, count)) low;
      finds =
          All-map (λ calls. All (IsFindCall setting) calls) (map find_of)
          (drop (length input.homes) input.scripts) each;
    }
  where
    count : subs setting ≡ length input.homes
    count = ap length over.starts

    one : (sub : ℕ) → sub < length input.homes → sub < subs setting
        → IsScript setting sub (steps_of (scripts_of input) sub)
    one sub known low =
        let starts : start setting sub ≡ get_or input.homes sub 0 =
        ap (λ (homes : List ℕ). get_or homes sub 0) over.starts in
        record {
          known = low;
          begins = subst (λ n. start setting sub < n) (sym over.nodes) (omega (arith, starts, valid.homes sub 0 known));
          allowed =
              subst (MaySteps setting (course_at (start setting sub))) (sym (steps-are input sub valid known))
              (course-may setting (course_at (start setting sub)) input.format (get_or input.homes sub 0) false
              (get_or input.scripts sub [])
              (subst (λ n. IsCourse input.format n (get_or input.homes sub 0) false (get_or input.scripts sub []))
              (sym over.nodes) (valid.courses sub known)) starts refl (omega (arith, calls-few input sub valid)));
        }

    low : (k : ℕ) → k < length (drop (length input.homes) input.scripts) → length input.homes + k < length input.scripts
    low k h = omega (arith, h, length-drop (length input.homes) input.scripts)

    over_setting : (call : Call) → IsSearch input.nodes (length input.homes) call
        → IsSearch setting.nodes (subs setting) call
    over_setting call its = subst (λ n. IsSearch n (subs setting) call) (sym over.nodes)
        (subst (λ n. IsSearch input.nodes n call) (sym count) its)

    searched : (k : ℕ) (e : List Call) → k < length (drop (length input.homes) input.scripts)
        → All (λ call. IsFindCall setting (find_of call)) (get_or input.scripts (length input.homes + k) e)
    searched k e h = subst (λ script. All (λ call. IsFindCall setting (find_of call)) script)
        (get_or_default input.scripts (length input.homes + k) [] e (low k h))
        (λ j c g. search-means setting _ (over_setting
        (get_or (get_or input.scripts (length input.homes + k) []) j c)
        (valid.searches (length input.homes + k) (omega arith) (low k h) j c g)))

    each : All (λ script. All (IsFindCall setting) (map find_of script)) (drop (length input.homes) input.scripts)
    each k d h = All-map (IsFindCall setting) find_of _
        (subst (λ script. All (λ call. IsFindCall setting (find_of call)) script)
        (sym (get_or-drop (length input.homes) input.scripts k d)) (searched k d h))
