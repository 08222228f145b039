-- Laws of the steps of a script and of their visits, for the proofs of the crates above.
-- Key laws: `step-at` (the step of the call at a place), `may-at` (that step may come there),
-- `some-write` (each step writes something), `in-script` (the visits of the first steps are the
-- first visits of the script), `script-inside` (its finds begin at nodes of the network).
use Rattle.std.proofs.Common.{◌≡◌, Bool, true, false, ℕ, zero, suc, ◌<◌, ◌≤◌, List, [], ◌∷◌, ◌++◌, length, map, take, drop, get_or, sym, ap, ◌∙◌, subst, arith, length-append, Vec}
use Rattle.std.specs.Prelude.{Some, slice_get, unwrap_or, All}
use Rattle.std.proofs.lemmas.Option.{unwrap_or-slice_get}
use Rattle.std.proofs.lemmas.List.{append-nil, take-append-drop, length-map, get_or-map}
use Rattle.std.proofs.lemmas.List.Elements.{All-cons, All-nil, All-weaker}
use Rattle.entry_word.specs.declared.visit.Visit.{Visit}
use Rattle.directory.specs.Settings.{Setting, start}
use Rattle.directory.specs.Courses.{Course, MayStep, MaySteps, Step, after_step, after_steps, course_at, move_to, switch_off, switch_on}
use Rattle.directory.specs.Orders.{steps_of}
use Rattle.directory.specs.StepLaws.{slice_get-within, visits-append, writes-append}
use Rattle.directory.specs.Writes.{step_writes, visit_of, visits, writes}
use Rattle.net_reader.specs.declared.said.Call.{Call}
use Rattle.net_reader.specs.declared.said.Call.TheVariants as calls
use Rattle.net_reader.specs.Input.{Contents}
use Rattle.machine.specs.Stands.{BeginInside, BeginsInside}
use Rattle.net_reader.specs.Valid.{IsCourse, IsSearch, IsValid}
use Rattle.scripts.specs.ScriptLaws.{steps-are}
use Rattle.scripts.specs.Scripts.{scripts_of, step_of}
use Rattle.region_plan.specs.Plan.{PlanData, nodes_of}
use Rattle.directory.specs.ListLaws.{slice_get-left}
use Rattle.std.specs.Global.{Global}

-- the step of the call at a place of a script
pub step-at : (input : Contents) (sub k : ℕ) (d : Call) → IsValid input → sub < length input.homes
    → k < length (get_or input.scripts sub [])
    → slice_get (steps_of (scripts_of input) sub) k
    ≡ Some (step_of (get_or (get_or input.scripts sub []) k d))
step-at input sub k d valid low short =
    let script : List Call = get_or input.scripts sub [] in
    let found = slice_get-within (map step_of script) k
    (omega (arith, short, length-map script step_of)) in
    let is : found.0 ≡ step_of (get_or script k d) =
    ap (λ o. unwrap_or o (step_of d)) (sym found.1)
    ∙ (unwrap_or-slice_get (map step_of script) k (step_of d)
    ∙ get_or-map step_of script k d (step_of d) short) in
    ap (λ ss. slice_get ss k) (steps-are input sub valid low) ∙ (found.1 ∙ ap Some is)

-- a step among steps that may come may come behind those before it
pub may-at : (setting : Setting) (course : Course) (steps : List Step) (k : ℕ) (step : Step)
    → MaySteps setting course steps → slice_get steps k ≡ Some step
    → MayStep setting (after_steps setting course (take k steps)) step
unfolding MaySteps
may-at setting course [] k step h at = cc
may-at setting course (one ∷ steps) zero step h at =
    let e : one ≡ step = cc in subst (MayStep setting course) e h.0
may-at setting course (one ∷ steps) (suc k) step h at =
    may-at setting (after_step setting course one) steps k step h.1 at

-- each step writes something
pub some-write : (setting : Setting) (course : Course) (step : Step)
    → 1 ≤ length (step_writes setting course step)
some-write setting course (move_to node) = omega arith
some-write setting course switch_off = omega arith
some-write setting course switch_on = omega arith

-- one step more adds a visit at least
pub visits-longer : (setting : Setting) (sub : ℕ) (steps : List Step) (step : Step)
    → length (visits setting sub steps) < length (visits setting sub (steps ++ step ∷ []))
unfolding writes
visits-longer setting sub steps step =
    let course : Course = course_at (start setting sub) in
    let last : Course = after_steps setting course steps in
    omega (
      arith,
      some-write setting last step,
      ap length (append-nil (step_writes setting last step)),
      length-map (writes setting course (steps ++ step ∷ [])) (visit_of sub),
      length-map (writes setting course steps) (visit_of sub),
      ap length (writes-append setting course steps (step ∷ [])),
      length-append (writes setting course steps) (writes setting last (step ∷ [])),
    )

-- the visits of the first steps of a script are its first visits
pub in-script : (setting : Setting) (sub k n : ℕ) (steps : List Step) (visit : Visit)
    → slice_get (visits setting sub (take k steps)) n ≡ Some visit
    → slice_get (visits setting sub steps) n ≡ Some visit
in-script setting sub k n steps visit h =
    ap (λ ss. slice_get (visits setting sub ss) n) (sym (take-append-drop k steps))
    ∙ (ap (λ vs. slice_get vs n)
    (visits-append setting sub (course_at (start setting sub)) (take k steps) (drop k steps))
    ∙ slice_get-left (visits setting sub (take k steps)) _ n visit h)

-- each call of a caller's script is a search
pub script-searches : {input : Contents} (plan : PlanData) (actor : ℕ) {script : List Call}
    {count : ℕ} → IsValid input → nodes_of plan ≡ input.nodes
    → length input.homes ≤ actor → actor < length input.scripts
    → script ≡ get_or input.scripts actor [] → count ≡ length input.homes
    → All (IsSearch (nodes_of plan) count) script
script-searches {input} plan actor {script} {count} valid nodes high low same few =
    rw (nodes, few, same) (valid.searches actor high low)

-- the finds of a subscriber's script begin at nodes of the network, since it has none
course-inside : (format n here : ℕ) (off : Bool) (script : List Call)
    → IsCourse format n here off script → BeginInside n script
course-inside format n here off [] its = All-nil (BeginsInside n)
course-inside format n here off (calls.Move to ∷ script) its =
    All-cons (BeginsInside n) (calls.Move to) script tt (course-inside format n to off script its.3)
course-inside format n here off (calls.Find from sub ∷ script) its = absurd its
course-inside format n here off (calls.Off ∷ script) its =
    All-cons (BeginsInside n) calls.Off script tt (course-inside format n here true script its.2)
course-inside format n here off (calls.On ∷ script) its =
    All-cons (BeginsInside n) calls.On script tt (course-inside format n here false script its.2)

-- a search begins at one of them
search-inside : (n subs : ℕ) (call : Call) → IsSearch n subs call → BeginsInside n call
search-inside n subs (calls.Find from sub) its = its.0
search-inside n subs call its = absurd its

-- so all finds of an actor's script do
pub script-inside : {input : Contents} (actor : ℕ) → IsValid input → actor < length input.scripts
    → BeginInside input.nodes (get_or input.scripts actor [])
script-inside {input} actor valid low = grind (arith, course-inside, search-inside, All-weaker)

-- the script that the code reads
pub script-is : (scripts : List (Vec Call Global)) (actor : ℕ) {held : Vec Call Global}
    {script : List Call} → actor < length (map (λ (s : Vec Call Global). s.items) scripts)
    → held ≡ get_or scripts actor held → script ≡ held.items
    → script ≡ get_or (map (λ (s : Vec Call Global). s.items) scripts) actor []
script-is scripts actor {held} low same its =
    let items : Vec Call Global → List Call = λ s. s.items in
    its ∙ (ap items same ∙ sym (get_or-map items scripts actor held []
    (omega (arith, low, length-map scripts items))))
