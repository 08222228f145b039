-- An outcome of a valid input has the form that the checker reads.
use Rattle.std.proofs.Common.{◌≡◌, ℕ, zero, suc, ◌-◌, ◌*◌, ◌^◌, ◌<◌, ◌≤◌, ◌==◌, Bool, true, false, cond, List, [], ◌∷◌, length, map, get_or, Option, Some, None, refl, sym, ◌∙◌, arith, subst, inl, inr}
use Rattle.std.specs.Prelude.{All, filter, filter_map, slice_get, slice_index}
use Rattle.std.specs.List.{cons_option}
use Rattle.std.proofs.lemmas.List.{get_or_past, length-map, length-take}
use Rattle.std.proofs.lemmas.List.Elements.{All-cons, All-nil}
use Rattle.std.proofs.lemmas.List.Sums.{count_by-le-length, length-filter, sum_by-cons}
use Rattle.std.proofs.lemmas.Bool.{cases_lt}
use Rattle.std.proofs.lemmas.Option.{slice_get_within}
use Rattle.entry_word.specs.declared.visit.Visit.{Visit}
use Rattle.directory.specs.Settings.{Setting, levels, start}
use Rattle.directory.specs.Courses.{Course, Step, after_steps, course_at, last_stop, move_to, next_move}
use Rattle.directory.specs.Finds.{FindCall}
use Rattle.directory.specs.Histories.{History, before, is_put_for, puts_to, through}
use Rattle.directory.specs.Looks.{first_of, last_of}
use Rattle.directory.specs.Orders.{IsFindCall, IsPlayed, Scripts, history_of}
use Rattle.directory.specs.Outcomes.{IsFindLine, IsMade, IsStepLine, found_line, outcome_of, step_line}
use Rattle.directory.specs.Puts.{mark_put, node_put}
use Rattle.directory.specs.ScriptLaws.{call_of_valid}
use Rattle.directory.specs.Standing.{commit_of, number}
use Rattle.directory.specs.Statements.{LooksFall}
use Rattle.directory.specs.Writes.{Write, visit_of}
use Rattle.directory.specs.declared.answers.Done.{Done}
use Rattle.directory.specs.declared.answers.Done.TheVariants.{Moved, Switched, Found as FoundBy, Off as OffBy, Again as AgainBy}
use Rattle.directory.specs.declared.answers.Found.{Found}
use Rattle.directory.specs.declared.answers.Found.TheVariants.{At, Off as OffAt, Again}
use Rattle.net_reader.specs.declared.said.Call.{Call}
use Rattle.net_reader.specs.declared.said.Call.TheVariants as said
use Rattle.net_reader.specs.Input.{Contents}
use Rattle.net_reader.specs.Table.{most_calls}
use Rattle.net_reader.specs.Valid.{IsValid, count_calls}
use Rattle.region_plan.specs.Matched.{BoundsFinds, PlansHaveFewReaders}
use Rattle.region_plan.specs.Plan.{PlanData, levels_of}
use Rattle.region_plan.specs.Settings.{setting_of}
use Rattle.report_check.specs.Forms.{IsCallBelow, IsLevelBelow}
use Rattle.report_check.specs.Reading.{most}
use Rattle.report_check.specs.Verdicts.{bounds_of}
use Rattle.scripts.specs.Laws.{VisitsAreFew}
use Rattle.scripts.specs.Scripts.{most_in, most_of, most_visits, scripts_of}
use Rattle.trail_laws.specs.RightOutcomes.{IsRightLine}
use Rattle.trail_laws.specs.Trail.{EntriesTell, MarksTell}
use Rattle.own_reports.specs.Reports.{OutcomesHaveForm}
use Rattle.own_reports.proofs.Cuts.{IsOver, Laws, legal-before}
use Rattle.own_reports.proofs.Fits.{IsFit, find-fits}
use Rattle.own_reports.proofs.Inputs.{over-in, plan-bounds, setting-is, setting_in}
use Rattle.own_reports.proofs.Looked.{IsLook, ends-look}
use Rattle.own_reports.proofs.Order.{actors_of}
use Rattle.own_reports.proofs.Places.{PlanLaws}
use Rattle.own_reports.proofs.Sizes.{IsSmall, small-in}
use Rattle.own_reports.proofs.SlotsTold.{outcome-slots}
use Rattle.own_reports.proofs.Strangers.{idle}
use Rattle.report_check.specs.Inputs.{plan_for}

-- ---- numbers

filter-few : {A : Type 0} (test : A → Bool) (xs : List A) → length (filter test xs) ≤ length xs
filter-few test xs = omega (arith, length-filter test xs, count_by-le-length test xs)

mapped-few : {A B : Type 0} (f : A → Option B) (xs : List A) → length (filter_map f xs) ≤ length xs
mapped-few f [] = omega arith
mapped-few {B = B} f (x ∷ xs) = at_option (f x) (mapped-few f xs)
  where
    at_option : (o : Option B) → length (filter_map f xs) ≤ length xs
        → length (cons_option o (filter_map f xs)) ≤ suc (length xs)
    at_option None h = omega (arith, h)
    at_option (Some y) h = omega (arith, h)

-- a subscriber's number is no greater than the count of visits
number-few : (sub : ℕ) (history : History) (t : ℕ) → number sub (through t history) ≤ length history
number-few sub history t =
    omega (
      arith,
      mapped-few (λ (v : Visit). commit_of (node_put v.act) (mark_put v.act)) (puts_to sub (through t history)),
      filter-few (λ (v : Visit). is_put_for sub v.act) (through t history),
      length-take (suc t) history,
    )

-- the tickets of a step are below the count of visits
seen-below : (history : History) (sub : ℕ) (ws : List Write) (seen : List ℕ)
    → map (slice_get history) seen ≡ map (λ write. Some (visit_of sub write)) ws
    → (i : ℕ) → slice_index seen i ≤ length history
seen-below history sub ws [] made i = omega arith
seen-below history sub [] (t ∷ seen) made i = cc
seen-below history sub (w ∷ ws) (t ∷ seen) made zero =
    let there : slice_get history t ≡ Some (visit_of sub w) = cc in
    let inside : t < length history = slice_get_within history t (visit_of sub w) there in omega (arith, inside)
seen-below history sub (w ∷ ws) (t ∷ seen) made (suc i) =
    let rest : map (slice_get history) seen ≡ map (λ write. Some (visit_of sub write)) ws = cc in
    seen-below history sub ws seen rest i

look-below : (history : History) (t : ℕ) → IsLook history t → t < length history
look-below history t (actor, key, there) = slice_get_within history t _ there

-- ---- lines

module _ (plan : PlanData) (homes : List ℕ) (some : 1 ≤ levels_of plan) (small : IsSmall (setting_of plan homes))
    (history : History) (few : length history < 2 ^ 62) where
  abbrev S : Setting
  S = setting_of plan homes

  step-below : (sub : ℕ) (course : Course) (step : Step) (seen : List ℕ)
      → ((i : ℕ) → slice_index seen i ≤ length history) → IsCallBelow (bounds_of plan)
      (step_line S sub course step seen)
  step-below sub course (move_to node) seen low = (
    omega (arith, small.distance (last_stop course) node),
    omega (arith, low 0, few),
    omega (arith, low (suc (suc (next_move S course node).renewed)), few),
    omega (arith, low (length seen - 1), few),
  )
  step-below sub course _ seen low = omega (arith, low 0, few)

  level-below : (level : Option ℕ) → IsLevelBelow (levels S) level → IsLevelBelow (levels_of plan) level
  level-below None low = tt
  level-below (Some level) low = omega (arith, low, some)

  found-below : (caller : ℕ) (call : FindCall) (found : Found) (first last : ℕ) → IsFit S found → first < length history
      → last < length history → IsRightLine S history (found_line caller call found first last)
      → IsCallBelow (bounds_of plan) (found_line caller call found first last)
  found-below caller call (At node n level weight) first last fit one two right = (
    (fit.0, omega (arith, right.1, number-few call.sub history last, few), level-below level fit.1),
    (omega (arith, fit.2), omega (arith, one, few), omega (arith, two, few)),
  )
  found-below caller call (OffAt node n level weight) first last fit one two right = (
    (fit.0, omega (arith, right.1, number-few call.sub history last, few), level-below level fit.1),
    (omega (arith, fit.2), omega (arith, one, few), omega (arith, two, few)),
  )
  found-below caller call (Again why weight) first last fit one two right =
      (fit.0, (omega (arith, fit.1), omega (arith, one, few), omega (arith, two, few)))

  module _ (laws : Laws) (fall : LooksFall) (marks : MarksTell) (entries : EntriesTell) (scripts : Scripts)
      (over : IsOver S scripts history) where
    made-step : (sub : ℕ) (line : Done) → IsStepLine S scripts history sub line → IsCallBelow (bounds_of plan) line
    made-step sub line made =
        subst (IsCallBelow (bounds_of plan)) (sym made.tells)
        (step-below sub (after_steps S (course_at (start S sub)) made.before) made.step made.seen
        (seen-below history sub _ made.seen made.made))

    made-find : (caller : ℕ) (call : FindCall) (line : Done) → IsFindLine S scripts history caller call line
        → IsRightLine S history line → IsCallBelow (bounds_of plan) line
    made-find caller call line made right =
        let is : IsFindCall S call = call_of_valid S scripts caller made.before call made.later over.valid made.script
        in
        let ends = ends-look S history caller call made.found made.seen made.find in
        let fit : IsFit S made.found =
        find-fits S small call is.inside history marks entries
        (legal-before laws S scripts history over call.sub is.known) fall caller made.found made.seen made.find in
        subst (IsCallBelow (bounds_of plan)) (sym made.tells)
        (found-below caller call made.found (first_of made.seen) (last_of made.seen) fit
        (look-below history (first_of made.seen) ends.0) (look-below history (last_of made.seen) ends.1)
        (subst (IsRightLine S history) made.tells right))

    pub line-below : (line : Done) → IsMade S scripts history line → IsRightLine S history line
        → IsCallBelow (bounds_of plan) line
    line-below (Moved actor n from to weight first commit last) made right = made-step actor _ made
    line-below (Switched actor is_off node n ticket) made right = made-step actor _ made
    line-below (FoundBy actor from sub node n level weight first last) made right =
        made-find actor (record { from = from; sub = sub }) _ made right
    line-below (OffBy actor from sub node n level weight first last) made right =
        made-find actor (record { from = from; sub = sub }) _ made right
    line-below (AgainBy actor from sub why weight first last) made right =
        made-find actor (record { from = from; sub = sub }) _ made right

-- ---- visits

call-few : (setting : Setting) (call : Call) → IsSmall setting → most_of setting call ≤ 2 ^ 16
call-few setting (said.Move to) small = omega (arith, small.nodes, small.top)
call-few setting (said.Find from sub) small = small.looks from
call-few setting _ small = omega arith

script-few : (setting : Setting) (script : List Call) → IsSmall setting
    → most_in setting script ≤ length script * 2 ^ 16
script-few setting [] small = omega arith
script-few setting (call ∷ script) small =
    omega (
      arith,
      sum_by-cons (most_of setting) call script,
      call-few setting call small,
      script-few setting script
          small,
    )

scripts-few : (setting : Setting) (scripts : List (List Call)) → IsSmall setting
    → most_visits setting scripts ≤ count_calls scripts * 2 ^ 16
scripts-few setting [] small = omega arith
scripts-few setting (script ∷ scripts) small =
    omega (
      arith,
      sum_by-cons (most_in setting) script scripts,
      script-few setting script small,
      scripts-few setting scripts small,
    )

calls-most : (format : ℕ) → most_calls format ≤ 16384
calls-most format =
    elim (format == 2) as (λ second. cond second 16384 8192 ≤ 16384) [ true ↦ omega arith | false ↦ omega arith ]

-- ---- actors

known-actor : (contents : Contents) (setting : Setting) (history : History) (t : ℕ) (v : Visit) → IsValid contents
    → setting.starts ≡ contents.homes → IsPlayed setting (scripts_of contents) history
    → slice_get history t ≡ Some v → v.actor < most
known-actor contents setting history t v valid same played is = elim (cases_lt v.actor (length contents.scripts)) [
  | inl low ↦ omega (arith, low, valid.scripts, valid.few_homes, valid.callers)
  | inr high ↦ absurd (let bad : None ≡ Some v =
      sym (idle contents setting (before t history) v.actor valid same (get_or_past contents.scripts v.actor [] high))
      ∙ played t v is in cc)
]

all-actors : (P : ℕ → Type 0) (history : History)
    → ((t : ℕ) (v : Visit) → slice_get history t ≡ Some v → P v.actor) → All P (actors_of history)
all-actors P [] each = All-nil P
all-actors P (v ∷ history) each =
    All-cons P v.actor (actors_of history) (each 0 v refl)
    (all-actors P history (λ t other is. each (suc t) other is))

-- ---- the whole

-- the laws of the form that are used
pub record FormLaws : Type 0 where
  pub fall : LooksFall
  pub marks : MarksTell
  pub entries : EntriesTell
  pub sparse : PlansHaveFewReaders
  pub visits : VisitsAreFew

pub outcomes-formed : Laws → PlanLaws → FormLaws → OutcomesHaveForm
outcomes-formed laws plans forms contents order valid =
    let plan : PlanData = plan_for contents in
    let setting : Setting = setting_in contents in
    let scripts : Scripts = scripts_of contents in
    let history : History = history_of setting scripts order in
    let over : IsOver setting scripts history =
    over-in plans.means plans.scripts plans.played plans.done contents order valid in
    let small : IsSmall setting = small-in plans.means plans.bounds forms.sparse plans.track contents valid in
    let bounds : BoundsFinds plan = plan-bounds plans.bounds contents valid in
    let few : length history < 2 ^ 62 =
    omega (
      arith,
      forms.visits contents setting history valid (setting-is plans.means contents valid) over.played,
      scripts-few setting contents.scripts small,
      valid.few_calls,
      calls-most contents.format,
    ) in record {
      slots_are = outcome-slots contents setting history valid refl over;
      calls = λ i call low.
          line-below plan contents.homes bounds.matched.some small history few laws forms.fall forms.marks forms.entries
          scripts over (get_or (outcome_of setting scripts order).calls i call)
          (plans.made setting scripts history over.played over.done i call low)
          (plans.right setting scripts order over.nodes (plans.track plan contents.homes bounds).whole over.valid i call
          low);
      order = all-actors (λ actor. actor < most) history (λ t v is.
          known-actor contents setting history t v valid refl over.played is);
      visits = omega (arith, few, length-map history (λ (visit : Visit). visit.actor));
    }
