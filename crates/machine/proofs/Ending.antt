-- The end: when no actor has a visit left, the lines of all actors, one behind the other, are those of the outcome,
-- they are right, and their numbers rise.
use Rattle.std.proofs.Common.{◌≡◌, ◌+◌, ◌<◌, ◌≤◌, ℕ, List, ◌++◌, length, take, drop, get_or, ap, sym, ◌∙◌, arith, add-one, append_assoc, append-nil, drop-cons, length-append, suc, [], ◌∷◌, map, fold, refl, Option, take-append-drop}
use Rattle.std.specs.Prelude.{flat_map, None, Some, vec_capacity, All}
use Rattle.std.proofs.Math.Seq.{take-suc}
use Rattle.std.proofs.lemmas.Grind.{flat_map-append}
use Rattle.std.proofs.lemmas.List.{length-map, length-drop, take_all, get_or-drop}
use Rattle.directory.specs.Settings.{Setting, start}
use Rattle.directory.specs.Courses.{Course, Step, course_at}
use Rattle.directory.specs.Histories.{History, own}
use Rattle.directory.specs.Finds.{FindCall, Pursuit}
use Rattle.directory.specs.Writes.{numbers_from, visit_of, visits, writes}
use Rattle.directory.specs.Orders.{Caller as Seeker, after_read, finds_of, read_by, script_visits, steps_of, with_pursuit, IsDone}
use Rattle.directory.specs.Outcomes.{caller_lines, outcome_in, sub_lines}
use Rattle.directory.specs.StepLaws.{writes-append, past-end}
use Rattle.directory.specs.declared.answers.Done.{Done}
use Rattle.directory.specs.declared.answers.Found.{Found}
use Rattle.net_reader.specs.declared.said.Call.{Call}
use Rattle.net_reader.specs.Input.{Contents}
use Rattle.net_reader.specs.Valid.{count_calls}
use Rattle.region_plan.specs.Plan.{PlanData}
use Rattle.machine.specs.declared.caller.Caller.{Caller}
use Rattle.machine.specs.declared.subscriber.Subscriber.{Subscriber}
use Rattle.machine.specs.declared.machine.Machine.{Machine}
use Rattle.scripts.specs.Scripts.{scripts_of, step_of, find_of}
use Rattle.machine.specs.Stands.{setting_over, over}
use Rattle.machine.specs.Subscribers.{IsSubscriber, begun_steps, shown_at}
use Rattle.machine.specs.Machines.{HasHistory, input_at, scripts_at, setting_at}
use Rattle.scripts.specs.ScriptLaws.{finds-are, steps-are, few-nodes}
use Rattle.directory.specs.HistoryLaws.{next-sub}
use Rattle.entry_word.specs.declared.visit.Visit.{Visit}
use Rattle.trail_laws.specs.RightOutcomes.{IsRightLine, NumbersRise, OutcomesAreRight, TellRisingNumbers}
use Rattle.region_plan.specs.Matched.{IsMatched}
use Rattle.directory.specs.Statements.{OrdersAreOwn}
use Rattle.scripts.specs.Laws.{ScriptsAreValid}
use Rattle.walk.specs.ReaderLaws.{reads-top}

module _ {A B : Type 0} (f : A → List B) (xs : List A) (i : ℕ) (item : A) (part : List B) (low : i < length xs)
    (is : item ≡ get_or xs i item) (its : part ≡ f item) where
  its-part : f (get_or xs i item) ≡ part
  its-part = ap f (sym is) ∙ sym its

  -- the parts that are left begin with that of the item
  parts-left : length (flat_map f (drop i xs)) ≡ length part + length (flat_map f (drop (i + 1) xs))
  parts-left = grind (arith, drop-cons, its-part, add-one, length-append)

  pub part-fits : (held capacity : ℕ) → held + length (flat_map f (drop i xs)) ≤ capacity
      → held + length part ≤ capacity
  part-fits held capacity fits = omega (arith, fits, parts-left)

  pub part-more : (old : List B) {now new : List B} (held capacity : ℕ) → now ≡ old ++ flat_map f (take i xs)
      → new ≡ now ++ part → length now + length (flat_map f (drop i xs)) ≤ held → held ≤ capacity
      → (new ≡ old ++ flat_map f (take (i + 1) xs))
      × (length new + length (flat_map f (drop (i + 1) xs)) ≤ capacity)
  part-more old {now} held capacity items added fits wide = (
    rw (added, items, add-one i, take-suc xs i item low, flat_map-append, append-nil, its-part, append_assoc),
    omega (arith, fits, wide, parts-left, ap length added, length-append now part),
  )

none-left : (setting : Setting) (course : Course) (before left : List Step) (made : ℕ)
    → length (writes setting course (before ++ left)) ≤ made → made ≤ length (writes setting course before)
    → left ≡ []
unfolding writes
none-left setting course before [] made all few = refl
none-left setting course before (step ∷ later) made all few = grind (arith, writes-append, length-append)

pub lines-done : (input : Contents) (plan : PlanData) (history : History) (sub : ℕ) (subscriber : Subscriber)
    → sub < length input.homes → IsSubscriber input plan history sub subscriber
    → IsDone (setting_over input plan) (scripts_of input) history sub
    → subscriber.lines.items ≡ sub_lines (setting_over input plan) (scripts_of input) history sub
lines-done input plan history sub subscriber low is done =
    let setting : Setting = setting_over input plan in
    let script : List Step = steps_of (scripts_of input) sub in
    let begun : List Step = begun_steps input sub (shown_at is.handset subscriber) in
    let left : List Step = drop (length subscriber.lines.items) script in
    let course : Course = course_at (start setting sub) in
    let whole : begun ++ left ≡ script = take-append-drop (length subscriber.lines.items) script in
    let made : length (script_visits setting (scripts_of input) sub) ≤ length (own sub history) =
    grind (arith, past-end, next-sub) in
    let few : length (own sub history) ≤ length (visits setting sub begun) = grind arith in
    let nothing : left ≡ [] = none-left setting course begun left (length (own sub history))
    (rw whole (omega (arith, made, length-map (writes setting course script) (visit_of sub))))
    (omega (arith, few, length-map (writes setting course begun) (visit_of sub))) in
    let all_begun : begun ≡ script = take_all (length subscriber.lines.items) script
    (omega (arith, ap length nothing, length-drop (length subscriber.lines.items) script)) in
    rw all_begun at is.shown.lines

-- what each of a list gives, when each number gives the same
pub flat-each : {X A : Type 0} (f : X → List A) (g : ℕ → List A) (xs : List X) (k : ℕ)
    → ((i : ℕ) (d : X) → i < length xs → f (get_or xs i d) ≡ g (k + i))
    → flat_map f xs ≡ flat_map g (numbers_from k (length xs))
flat-each f g [] k each = refl
flat-each f g (x ∷ xs) k each =
    let here : k + 0 ≡ k = omega arith in
    let first : f x ≡ g k = each 0 x (omega arith) ∙ ap g here in
    rw (
      first,
      flat-each f g xs (suc k) (λ i d h. each (suc i) d (omega (arith, h))
          ∙ ap g (let e : k + suc i ≡ suc k + i = omega arith in e)),
    ) refl

-- the lines of some actors are no more than their calls
flat-few : {X : Type 0} (f : X → List Done) (xs : List X) (scripts : List (List Call))
    → ((i : ℕ) (d : X) → i < length xs → length (f (get_or xs i d)) ≤ length (get_or scripts i []))
    → length xs ≤ length scripts
    → length (flat_map f xs) + count_calls (drop (length xs) scripts) ≤ count_calls scripts
flat-few f [] scripts each within = omega arith
flat-few f (x ∷ xs) [] each within = absurd (omega (arith, within))
flat-few f (x ∷ xs) (script ∷ scripts) each within =
    omega (
      arith,
      each 0 x (omega arith),
      length-append (f x) (flat_map f xs),
      flat-few f xs scripts (λ i d h. each (suc i) d (omega (arith, h))) (omega (arith, within)),
    )

-- a caller's answers and the finds that it has left stay as many
abbrev all_finds : Seeker → ℕ
all_finds caller = length caller.answers + length caller.calls

pursuit-count : (caller : Seeker) {call : FindCall} {later : List FindCall} (pursuit : Pursuit) (answer : Option Found)
    → caller.calls ≡ call ∷ later → all_finds (with_pursuit caller call later pursuit answer) ≡ all_finds caller
pursuit-count caller pursuit None same = refl
pursuit-count caller pursuit (Some found) same = simp length-append (omega (arith, ap length same))

read-count : (setting : Setting) (caller : Seeker) (calls : List FindCall) (word : ℕ) → caller.calls ≡ calls
    → all_finds (read_by setting caller calls word) ≡ all_finds caller
read-count setting caller [] word same = refl
read-count setting caller (call ∷ later) word same = grind (arith, pursuit-count)

words-count : (setting : Setting) (words : List ℕ) (caller : Seeker)
    → all_finds (fold (after_read setting) caller words) ≡ all_finds caller
words-count setting [] caller = refl
words-count setting (word ∷ words) caller =
    words-count setting words (after_read setting caller word) ∙ read-count setting caller caller.calls word refl

caller-few : (input : Contents) (plan : PlanData) (history : History) (actor : ℕ)
    → length (caller_lines (setting_over input plan) (scripts_of input) history actor)
    ≤ length (finds_of (setting_over input plan) (scripts_of input) actor)
caller-few input plan history actor = grind (arith, length-map, words-count)

-- the lines of some subscribers, and of some callers
abbrev pub of_steps : List Subscriber → List Done
of_steps some = flat_map (λ (one : Subscriber). one.lines.items) some

abbrev pub of_finds : List Caller → List Done
of_finds some = flat_map (λ (one : Caller). one.lines.items) some

-- there is room for the lines of the subscribers, and then for those of the callers
pub room-for_both : {machine : Machine} {history : History} → HasHistory machine history
    → length (of_steps machine.subscribers.items) + length (of_finds machine.callers.items)
    ≤ vec_capacity machine.calls
room-for_both {machine} {history} is =
    let input : Contents = input_at machine in
    omega (
      arith,
      flat-few (λ (one : Subscriber). one.lines.items) machine.subscribers.items input.scripts
          (λ s d h. omega (
            arith,
            (is.subscribers s d (omega (arith, h, is.subscribers_count))).shown.few,
            ap length (steps-are input s is.together.valid (omega (arith, h, is.subscribers_count))),
            length-map (get_or input.scripts s []) step_of,
          ))
          (omega (arith, is.subscribers_count, is.together.valid.scripts)),
      flat-few (λ (one : Caller). one.lines.items) machine.callers.items
          (drop (length machine.subscribers.items) input.scripts)
          (λ c d h. omega (
            arith,
            ap length (is.callers c d (omega (arith, h, is.callers_count))).lines,
            caller-few input machine.plan.now history (length input.homes + c),
            ap length (finds-are input (setting_at machine) (length input.homes + c) refl (omega arith)
                (omega (arith, h, is.callers_count, is.together.valid.scripts))),
            length-map (get_or input.scripts (length input.homes + c) []) find_of,
            ap length (get_or-drop (length machine.subscribers.items) input.scripts c []),
            ap (λ n. length (get_or input.scripts (n + c) [])) is.subscribers_count,
          ))
          (omega (
            arith,
            is.subscribers_count,
            is.callers_count,
            is.together.valid.scripts,
            length-drop (length machine.subscribers.items) input.scripts,
          )),
      is.total,
    )

-- the lines of all actors are those of the outcome
pub lines-all : {machine : Machine} {history : History} → HasHistory machine history
    → ((actor : ℕ) → IsDone (setting_at machine) (scripts_at machine) history actor)
    → of_steps machine.subscribers.items ++ of_finds machine.callers.items
    ≡ (outcome_in (setting_at machine) (scripts_at machine) history).calls
lines-all {machine} {history} is done =
    let input : Contents = input_at machine in
    let finds_count : length (scripts_at machine).finds ≡ input.callers = grind (arith, length-map, length-drop) in
    rw (
      flat-each (λ (one : Subscriber). one.lines.items) (sub_lines (setting_at machine) (scripts_at machine) history)
          machine.subscribers.items 0 (λ s d h. lines-done input machine.plan.now history s
          (get_or machine.subscribers.items s d) (omega (arith, h, is.subscribers_count))
          (is.subscribers s d (omega (arith, h, is.subscribers_count))) (done s)
          ∙ ap (sub_lines (setting_at machine) (scripts_at machine) history)
          (let e : s ≡ 0 + s = omega arith in e)),
      flat-each (λ (one : Caller). one.lines.items) (caller_lines (setting_at machine) (scripts_at machine) history)
          machine.callers.items (length input.homes)
          (λ c d h. (is.callers c d (omega (arith, h, is.callers_count))).lines),
      is.subscribers_count,
      is.callers_count,
      finds_count,
    )

pub right-outcome : OutcomesAreRight → OrdersAreOwn → ScriptsAreValid → {machine : Machine} {history : History}
    → IsMatched machine.plan.now → HasHistory machine history
    → ((actor : ℕ) → IsDone (setting_at machine) (scripts_at machine) history actor)
    → All (IsRightLine (setting_at machine) history) (outcome_in (setting_at machine) (scripts_at machine)
    history).calls
right-outcome right own valid {machine} {history} matched is done =
    rw (← own (setting_at machine) (scripts_at machine) history is.sees.played done)
    (right (setting_at machine) (scripts_at machine) (map (λ (visit : Visit). visit.actor) history)
    (omega (arith, is.together.nodes, few-nodes (input_at machine) is.together.valid))
    (reads-top machine.plan.now (input_at machine).homes matched)
    (valid (input_at machine) (setting_at machine) is.together.valid
    (over (input_at machine) machine.plan.now machine.distances.now is.together)))

-- and later lines tell no lower numbers
pub rising-outcome : NumbersRise → OrdersAreOwn → ScriptsAreValid → {machine : Machine} {history : History}
    → HasHistory machine history → ((actor : ℕ) → IsDone (setting_at machine) (scripts_at machine) history actor)
    → TellRisingNumbers (outcome_in (setting_at machine) (scripts_at machine) history).calls
rising-outcome rise own valid {machine} {history} is done =
    rw (← own (setting_at machine) (scripts_at machine) history is.sees.played done)
    (rise (setting_at machine) (scripts_at machine) (map (λ (visit : Visit). visit.actor) history)
    (omega (arith, is.together.nodes, few-nodes (input_at machine) is.together.valid))
    (valid (input_at machine) (setting_at machine) is.together.valid
    (over (input_at machine) machine.plan.now machine.distances.now is.together)))
