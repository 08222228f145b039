-- A subscriber at rest: that nothing is left, or how far it is after the first visit of its next step, and what the
-- code reads of that step.
use Rattle.std.proofs.Common.{◌≡◌, ℕ, suc, ◌<◌, ◌≤◌, false, List, [], ◌∷◌, ◌++◌, length, take, get_or, sym, ap, ◌∙◌, subst, arith, drop, drop_of_length-le, true, refl, ◌-◌, ◌^◌}
use Rattle.std.specs.Global.{Vec}
use Rattle.std.specs.Prelude.{Some, None, slice_get, vec_capacity, Option, Result, Ok, Err, OnOk, OnSome}
use Rattle.std.proofs.lemmas.Option.{slice_get_past}
use Rattle.std.proofs.lemmas.List.{take_all, length_push, length-map, same_from_push, get_or_default}
use Rattle.entry_word.specs.declared.visit.Visit.{Visit}
use Rattle.directory.specs.Settings.{Setting, start}
use Rattle.directory.specs.Courses.{Course, Step, after_steps, course_at}
use Rattle.directory.specs.Histories.{History, own}
use Rattle.directory.specs.Orders.{next, steps_of}
use Rattle.directory.specs.Outcomes.{step_line}
use Rattle.directory.specs.StepLaws.{slice_get-within, take-more}
use Rattle.directory.specs.Writes.{visit_of, visits, writes}
use Rattle.directory.specs.declared.answers.Done.{Done}
use Rattle.net_reader.specs.declared.said.Call.{Call}
use Rattle.net_reader.specs.declared.said.Call.TheVariants as calls
use Rattle.net_reader.specs.Input.{Contents}
use Rattle.net_reader.specs.Valid.{IsValid}
use Rattle.region_plan.specs.Plan.{PlanData}
use Rattle.region_plan.specs.Settings.{setting_of}
use Rattle.distances.specs.Table.{DistanceTable}
use Rattle.handset.specs.Condition.{GoesWith, HandsetData}
use Rattle.handset.specs.StepWrites.{due}
use Rattle.handset.specs.Stands.{StandsForSteps}
use Rattle.visit_log.specs.Cells.{CellData, GoWith, Hold, IsPlaceOf}
use Rattle.scripts.specs.Scripts.{scripts_of, step_of}
use Rattle.scripts.specs.Laws.{ScriptsAreValid}
use Rattle.machine.specs.RestLaws.{may-begin}
use Rattle.machine.specs.Stands.{BelongTogether, setting_over, Sees}
use Rattle.machine.specs.Subscribers.{IsShown, MayBegin, Shown, begun_line, begun_steps, HasWritten, IsSubscriber, shown_at}
use Rattle.scripts.specs.ScriptLaws.{IsStep, course-steps, steps-are, calls-few}
use Rattle.machine.specs.ScriptVisits.{step-at, visits-longer, script-is}
use Rattle.machine.proofs.Seen.{lines-partial, Seen, seen-after, step-allowed}
use Rattle.directory.specs.HistoryLaws.{next-sub, tickets-count}
use Rattle.directory.specs.Statements.{TicketsGrow, OwnGrow, TicketsAreOwn}
use Rattle.handset.specs.StageLaws.{IsRestAfter, rests}
use Rattle.machine.proofs.Making.{HasNext}
use Rattle.machine.specs.Owed.{HasPut, IsAhead, Owes, HasNone}
use Rattle.machine.specs.declared.turn.Turn.TheVariants.{Visited}
use Rattle.machine.specs.declared.subscriber.Subscriber.{Subscriber}
use Rattle.machine.specs.declared.ahead.Ahead.{Ahead}
use Rattle.machine.proofs.Owing.{Next, Puts, next-of, put-next}
use Rattle.entry_word.specs.declared.visit.Key.{Key}
use Rattle.std.specs.Option.{is_some}
use Rattle.std.specs.Result.{is_err}
use Rattle.net_reader.specs.declared.input.Input.{Input}
use Rattle.net_reader.specs.Seen.{seen_input}

-- the call that a subscriber at rest begins
pub record Begins (input : Contents) (plan : PlanData) (history : History) (sub : ℕ) (old : Shown)
    (call : Call) : Type 0 where
  pub may : MayBegin plan old.handset call
  pub line : (ticket : ℕ) → begun_line plan old.handset call ticket
      ≡ step_line (setting_over input plan) sub
      (after_steps (setting_over input plan) (course_at (start (setting_over input plan) sub))
      (begun_steps input sub old))
      (step_of call) (ticket ∷ [])
  pub more : take (suc (length old.lines.items)) (steps_of (scripts_of input) sub)
      ≡ begun_steps input sub old ++ step_of call ∷ []
  pub all : length (own sub history)
      ≡ length (writes (setting_over input plan) (course_at (start (setting_over input plan) sub))
      (begun_steps input sub old))

first-line : (plan : PlanData) (starts : List ℕ) {handset : HandsetData} {steps : List Step} {made sub : ℕ}
    (call : Call) (ticket : ℕ) → IsRestAfter (setting_of plan starts) handset.sub handset steps made → handset.sub ≡ sub
    → IsStep call → begun_line plan handset call ticket ≡ step_line (setting_of plan starts) sub
    (after_steps (setting_of plan starts) (course_at (start (setting_of plan starts) sub)) steps) (step_of call)
    (ticket ∷ [])
first-line plan starts (calls.Find from found) ticket at same its = absurd its
first-line plan starts call ticket at same its = rw (at.number, at.place, same)

module _ {input : Contents} {plan : PlanData} {history : History} {sub : ℕ} {old : Shown}
    (low : sub < length input.homes) (its : IsShown input plan history sub old) where
  resting : due (setting_over input plan) old.handset ≡ None
      → IsRestAfter (setting_over input plan) old.handset.sub old.handset (begun_steps input sub old)
      (length (own sub history))
  resting none =
      rests (setting_over input plan) old.handset (begun_steps input sub old) (length (own sub history)) its.handset
      none

  pub begins : ScriptsAreValid → {distances : DistanceTable} {call : Call} → BelongTogether input plan distances
      → due (setting_over input plan) old.handset ≡ None
      → length old.lines.items < length (get_or input.scripts sub [])
      → call ≡ get_or (get_or input.scripts sub []) (length old.lines.items) call
      → Begins input plan history sub old call
  begins scripts {call = call} together none short same =
      let at = resting none in
      let is_step : IsStep call = grind (arith, course-steps) in
      let more : take (suc (length old.lines.items)) (steps_of (scripts_of input) sub)
      ≡ begun_steps input sub old ++ step_of call ∷ [] =
      take-more (steps_of (scripts_of input) sub) (length old.lines.items) (step_of call)
      (step-at input sub (length old.lines.items) call together.valid low short
      ∙ ap (λ c. Some (step_of c)) (sym same)) in
      let allowed =
      step-allowed scripts sub (suc (length old.lines.items)) (begun_steps input sub old) (step_of call) together low
      more in
      record {
        may = may-begin plan input.homes old.handset (begun_steps input sub old) (length (own sub history)) call at
            is_step (rw its.its allowed.0);
        line = λ ticket. first-line plan input.homes call ticket at its.its is_step;
        more = more;
        all = rw (at.all, length-map, its.its);
      }

  -- nothing is left where each step is done
  pub all-written : IsValid input → due (setting_over input plan) old.handset ≡ None
      → length old.lines.items ≡ length (get_or input.scripts sub [])
      → next (setting_over input plan) (scripts_of input) history sub ≡ None
  all-written valid none same = grind (arith, steps-are, length-map, take_all, next-sub, resting, slice_get_past)

  -- so far it is after the first visit of a step that it begins
  written-first : OwnGrow → TicketsGrow → TicketsAreOwn → {cells after : CellData} {ticket : ℕ} (new : Shown)
      {call : Call} {begun : HandsetData} {line : Done} → length history ≡ ticket
      → Hold plan input.homes cells history → Begins input plan history sub old call
      → StandsForSteps (setting_over input plan) begun (begun_steps input sub old ++ step_of call ∷ [])
      (length (own sub history)) → begun.sub ≡ sub → HasPut plan begun new.handset cells after
      → GoesWith plan new.handset → new.handset.sub ≡ begun.sub → GoWith plan after
      → new.lines.items ≡ old.lines.items ++ line ∷ [] → vec_capacity new.lines ≡ vec_capacity old.lines
      → line ≡ begun_line plan old.handset call ticket
      → length old.lines.items < length (steps_of (scripts_of input) sub)
      → HasNext input plan after history sub (λ later. IsShown input plan later sub new)
  written-first own_law ticket_law tell {ticket} new {call} {begun} {line} place hold begin stands mine put goes same
      over lines room line_is short =
      let setting : Setting = setting_over input plan in
      let course : Course = course_at (start setting sub) in
      let begun_now : List Step = begun_steps input sub old ++ step_of call ∷ [] in
      let longer : length new.lines.items ≡ suc (length old.lines.items) =
      omega (arith, ap length lines, length_push old.lines.items line) in
      let steps : begun_steps input sub new ≡ begun_now = grind arith in
      let seen : Seen input plan history sub put.visit =
      seen-after own_law ticket_law input plan history sub (suc (length old.lines.items)) low
      (rw begin.more (rw mine at (put.next input.homes begun_now (length (own sub history)) stands))) in (
        put.visit,
        seen.turn,
        record {
          handset = rw (steps, seen.count) (put.stands input.homes begun_now (length (own sub history)) stands);
          goes = goes;
          its = same ∙ mine;
          lines = grind (arith, lines-partial, tickets-count);
          few = omega (arith, longer, short);
          under = grind (arith, same_from_push);
          room = room ∙ its.room;
        },
        over,
        put.hold input.homes history hold,
      )

-- the first visit of a step
pub first-visit : (setting : Setting) (sub : ℕ) {n : ℕ} (steps : List Step) (step : Step)
    → n ≡ length (writes setting (course_at (start setting sub)) steps)
    → (visit : Visit) × (slice_get (visits setting sub (steps ++ step ∷ [])) n ≡ Some visit)
first-visit setting sub {n} steps step all = grind (
  arith,
  all,
  length-map (writes setting (course_at (start setting sub)) steps) (visit_of sub),
  visits-longer setting sub steps step,
  slice_get-within (visits setting sub (steps ++ step ∷ [])) n,
)

-- a handset that rests has no write left
pub has-none : (plan : PlanData) (handset : HandsetData) → due (setting_of plan []) handset ≡ None
    → HasNone plan handset
has-none plan handset none = record {
  due = none;
  next = λ starts steps made stands.
      let at = rests (setting_of plan starts) handset steps made stands none in
      slice_get_past (visits (setting_of plan starts) handset.sub steps) made (omega (arith, at.all));
}

-- where a write is left, one is ahead
pub some-there : {plan : PlanData} {handset : HandsetData} {next : Option Visit} (ahead : List Ahead)
    → (ahead ≡ [] → HasNone plan handset) → next ≡ due (setting_of plan []) handset → is_some next ≡ true
    → 0 < length ahead
some-there [] none same some = cc (some, same, (none refl).due)
some-there (write ∷ writes) none same some = omega arith

-- where all writes that were ahead are in their cells, the handset is as far as the history
now-at : {input : Contents} {plan : PlanData} {history : History} {sub : ℕ} {old : Subscriber}
    → length old.ahead.items ≤ old.made → (its : IsSubscriber input plan history sub old) → old.handset ≡ its.handset
now-at {old} full its = rw (drop_of_length-le old.ahead.items full) at its.owes

pub shown-now : {input : Contents} {plan : PlanData} {history : History} {sub : ℕ} {old : Subscriber}
    → length old.ahead.items ≤ old.made → IsSubscriber input plan history sub old
    → IsShown input plan history sub (shown_at old.handset old)
shown-now full its = rw (now-at full its) its.shown

-- other writes are ahead then
pub refilled : {input : Contents} {plan : PlanData} {history : History} {sub subs : ℕ} {old : Subscriber}
    {handset : HandsetData} {empty ahead : Vec Ahead} → length input.homes ≡ subs → length old.ahead.items ≤ old.made
    → empty.items ≡ [] → vec_capacity empty ≡ vec_capacity old.ahead → IsAhead plan subs old.handset handset empty ahead
    → (length ahead.items < vec_capacity ahead → due (setting_of plan []) handset ≡ None)
    → IsSubscriber input plan history sub old
    → IsSubscriber input plan history sub (record old { handset = handset; ahead = ahead; made = 0 })
refilled known full none space is ends its =
    record {
      handset = its.handset;
      shown = its.shown;
      owes = rw known (is.owes its.handset (rw none (now-at full its)));
      goes = is.goes;
      its = is.its ∙ its.its;
      within = omega arith;
      space = omega (arith, its.space, space, is.room);
      rests = ends;
    }

-- the cell of the first write ahead
pub first-cell : (plan : PlanData) (subs : ℕ) {sub : ℕ} (begun handset : HandsetData) (ahead : List Ahead)
    {write : Ahead} → 0 < length ahead → write ≡ get_or ahead 0 write → Owes plan subs begun handset ahead
    → begun.sub ≡ sub → (key : Key) × IsPlaceOf plan subs sub write.place key
first-cell plan subs begun handset ahead {write} some same owes mine =
    let next : Next plan subs begun handset write (drop 1 ahead) =
    next-of plan subs begun handset ahead 0 some same owes in
    (next.its.key, subst (λ s. IsPlaceOf plan subs s write.place next.its.key) mine next.its.cell)

-- the first write of a step that begins goes into its cell
pub first-put : OwnGrow → TicketsGrow → TicketsAreOwn → {input : Contents} {plan : PlanData} {cells after : CellData}
    {history : History} {sub ticket : ℕ} (old : Subscriber) (begun : HandsetData) {handset : HandsetData}
    (ahead : Vec Ahead) (lines : Vec Done) {call : Call} {write : Ahead} {line : Done} → sub < length input.homes
    → length history ≡ ticket → Sees input plan cells history
    → IsShown input plan history sub (shown_at old.handset old)
    → Begins input plan history sub (shown_at old.handset old) call → StandsForSteps (setting_over input plan) begun
    (begun_steps input sub (shown_at old.handset old) ++ step_of call ∷ []) (length (own sub history))
    → begun.sub ≡ old.handset.sub → Owes plan cells.subs begun handset ahead.items → GoesWith plan handset
    → handset.sub ≡ begun.sub → vec_capacity ahead ≡ 64 → 0 < length ahead.items → write ≡ get_or ahead.items 0 write
    → lines.items ≡ old.lines.items ++ line ∷ [] → vec_capacity lines ≡ vec_capacity old.lines
    → line ≡ begun_line plan old.handset call ticket → length old.lines.items < length (steps_of (scripts_of input) sub)
    → Puts plan sub cells after write → GoWith plan after
    → (length ahead.items < vec_capacity ahead → due (setting_of plan []) handset ≡ None)
    → HasWritten input plan history sub old (record { handset = handset; ahead = ahead; made = 1; lines = lines }) cells
    after Visited
first-put own_law ticket_law tell {plan = plan} {cells} old begun {handset} ahead lines {write = write} low place sees
    shown begin stands same_sub owes goes own_sub space some same lines_are room line_is short put over ends =
    let next : Next plan cells.subs begun handset write (drop 1 ahead.items) =
    next-of plan cells.subs begun handset ahead.items 0 some same owes in
    let mine = same_sub ∙ shown.its in
    let done = written-first low shown own_law ticket_law tell (record { handset = next.handset; lines = lines }) place
    sees.hold begin stands mine (put-next next.its mine put) next.its.goes next.its.its over lines_are room line_is
    short in (
      done.0,
      done.1,
      record {
        handset = next.handset;
        shown = done.2;
        owes = rw (← sees.hold.subs) next.owes;
        goes = goes;
        its = own_sub ∙ mine;
        within = omega (arith, some);
        space = space;
        rests = ends;
      },
      done.3,
      done.4,
    )

-- what is known where a step is left
pub record Ready (input : Input) (plan : PlanData) (history : History) (sub : ℕ) (old : Shown) (script : List Call)
    (place : ℕ) (default : Call) : Type 0 where
  pub begin : Begins (seen_input input) plan history sub old (get_or script place default)
  pub short : place < length script
  pub few : length script < 2 ^ 32 - 1
  pub left : length old.lines.items < length (steps_of (scripts_of (seen_input input)) sub)
  pub shown : IsShown (seen_input input) plan history sub old

pub script-of : (input : Input) {plan : PlanData} {distances : DistanceTable} (sub : ℕ) {held : Vec Call}
    {script : List Call} → BelongTogether (seen_input input) plan distances → sub < length input.homes.items
    → held ≡ get_or input.scripts.items sub held → script ≡ held.items → script ≡ get_or (seen_input input).scripts sub
    []
script-of input sub together low reads same =
    script-is input.scripts.items sub (omega (arith, low, together.valid.scripts)) reads same

pub ready : ScriptsAreValid → (input : Input) {plan : PlanData} {distances : DistanceTable} {history : History}
    {sub : ℕ} {subscriber : Subscriber} {held : Vec Call} {script : List Call} {place : ℕ} (default : Call)
    → BelongTogether (seen_input input) plan distances → sub < length input.homes.items
    → length subscriber.ahead.items ≤ subscriber.made → IsSubscriber (seen_input input) plan history sub subscriber
    → due (setting_over (seen_input input) plan) subscriber.handset ≡ None → held ≡ get_or input.scripts.items sub held
    → script ≡ held.items → place ≡ length subscriber.lines.items → (place ≡ length script → ⊥)
    → Ready input plan history sub (shown_at subscriber.handset subscriber) script place default
ready scripts input {plan} {history} {sub} {subscriber} {script} {place} default together low full far rests reads
    same here other =
    let old : Shown = shown_at subscriber.handset subscriber in
    let its : IsShown (seen_input input) plan history sub old =
    shown-now full far in
    let script_is : script ≡ get_or (seen_input input).scripts sub [] =
    script-of input sub together low reads same in
    let steps : length (steps_of (scripts_of (seen_input input)) sub) ≡ length script =
    ap length (steps-are (seen_input input) sub together.valid low)
    ∙ (length-map (get_or (seen_input input).scripts sub []) step_of ∙ ap length (sym script_is)) in
    let short : place < length script = omega (arith, here, its.few, steps, other) in
    let call : Call = get_or script place default in
    record {
      begin = begins low its scripts together rests (omega (arith, here, short, ap length script_is))
          (get_or_default script place default call short
          ∙ (ap (λ s. get_or s place call) script_is ∙ ap
          (λ i. get_or (get_or (seen_input input).scripts sub []) i call) here));
      short = short;
      few = omega (arith, calls-few (seen_input input) sub together.valid, ap length script_is);
      left = omega (arith, here, short, steps);
      shown = its;
    }

pub on-some : {A : Type 0} (P : Type 0) {r : Option A} {x : A} → r ≡ Some x → OnSome r P → P
on-some P e h = subst (λ o. OnSome o P) e h

pub on-ok : {A E : Type 0} (P : Type 0) (r : Result A E) → is_err r ≡ false → OnOk r P → P
on-ok P (Ok x) e h = h
on-ok P (Err x) e h = cc

-- a write of the step that is begun is ahead
pub first-ahead : {input : Input} {plan : PlanData} {history : History} {sub : ℕ} {old : Shown} {script : List Call}
    {place : ℕ} {default : Call} {begun : HandsetData} (ahead : List Ahead)
    → Ready input plan history sub old script place default → begun.sub ≡ old.handset.sub
    → StandsForSteps (setting_over (seen_input input) plan) begun
    (begun_steps (seen_input input) sub old ++ step_of (get_or script place default) ∷ []) (length (own sub history))
    → (ahead ≡ [] → HasNone plan begun) → 0 < length ahead
first-ahead {input} {plan} {history} {sub} {old} {script} {place} {default} {begun} [] at same stands rests =
    let step : Step = step_of (get_or script place default) in
    let steps : List Step = begun_steps (seen_input input) sub old ++ step ∷ [] in
    let first = first-visit (setting_over (seen_input input) plan) sub (begun_steps (seen_input input) sub old) step
    at.begin.all in
    let some : slice_get (visits (setting_over (seen_input input) plan) begun.sub steps) (length (own sub history))
    ≡ Some first.0 = rw (same, at.shown.its) first.1 in
    let none = (rests refl).next (seen_input input).homes steps (length (own sub history)) stands in
    cc (some, none)
first-ahead (write ∷ writes) at same stands rests =
    omega arith
