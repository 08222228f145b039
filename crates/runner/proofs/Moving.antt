-- A subscriber's part of a worker: the next step of its script begins, and its next put is made.
use Rattle.std.proofs.Common.{◌≡◌, ◌≢◌, ℕ, suc, ◌-◌, ◌<◌, ◌≤◌, true, false, List, [], ◌∷◌, ◌++◌, Option, length, take, get_or, refl, sym, ap, ◌∙◌, subst, arith}
use Rattle.std.specs.Prelude.{Some, None, slice_get, IfSome, IsSome}
use Rattle.std.specs.Option.{is_some}
use Rattle.std.proofs.lemmas.Option.{slice_get_within}
use Rattle.std.proofs.lemmas.List.{append-nil, take_all, length_push, length-map}
use Rattle.entry_word.specs.declared.visit.Visit.{Visit}
use Rattle.directory.specs.Settings.{Setting, start}
use Rattle.directory.specs.Courses.{Step, course_at}
use Rattle.directory.specs.Amid.{course_of}
use Rattle.directory.specs.Histories.{own, puts_to}
use Rattle.directory.specs.Keys.{act_node}
use Rattle.directory.specs.HistoryLaws.{next-sub}
use Rattle.directory.specs.Legal.{IsScript}
use Rattle.directory.specs.Orders.{AreValid, next, script_visits, steps_of}
use Rattle.directory.specs.StepLaws.{past-end, take-append, take-more, visits-append, visits_in, may-take}
use Rattle.directory.specs.Writes.{visit_of, visits}
use Rattle.handset.specs.Condition.{GoesWith, HandsetData}
use Rattle.handset.specs.StepWrites.{due, due_at}
use Rattle.handset.specs.StageLaws.{IsRestAfter, rests}
use Rattle.handset.specs.Stands.{StandsForSteps}
use Rattle.machine.specs.RestLaws.{may-begin}
use Rattle.machine.specs.ScriptVisits.{in-script, may-at, step-at, visits-longer}
use Rattle.machine.specs.Subscribers.{MayBegin}
use Rattle.net_reader.specs.declared.said.Call.{Call}
use Rattle.net_reader.specs.Input.{Contents}
use Rattle.distances.specs.Table.{DistanceTable}
use Rattle.region_plan.specs.Plan.{PlanData}
use Rattle.region_plan.specs.Settings.{setting_of}
use Rattle.scripts.specs.Laws.{ScriptsAreValid}
use Rattle.scripts.specs.ScriptLaws.{IsStep, course-steps, steps-are}
use Rattle.scripts.specs.Scripts.{scripts_of, step_of}
use Rattle.station.specs.Handsets.{HandsetGoesOn, IsHandsetOf}
use Rattle.station.specs.Passes.{PassData}
use Rattle.station.specs.Plays.{visit_by}
use Rattle.station.specs.Setup.{Setup, setting_in}
use Rattle.station.specs.Visits.{HasLost, HasVisited}
use Rattle.station.specs.declared.turns.Held.{Held}
use Rattle.station.specs.declared.view.View.{View}
use Rattle.runner.specs.Playing.{HasLostNext, HasMadeNext, next_of}
use Rattle.runner.specs.Roles.{HasBegun, IsMover, IsSetFor, IsUnderWay}
use Rattle.runner.specs.declared.mover.Mover.{Mover}
use Rattle.directory.specs.ListLaws.{option_map-some}
use Rattle.runner.proofs.Finding.{set-setting}
use Rattle.station.specs.TicketLaws.{own-visited}

pub due-some : {A : Type 0} (o : Option A) → IsSome o → (x : A) × (o ≡ Some x)
due-some None h = cc
due-some (Some x) h = (x, refl)

-- what a handset writes is its subscriber's
due-actor : (setting : Setting) (handset : HandsetData) {visit : Visit} → due setting handset ≡ Some visit
    → visit ≡ record { actor = handset.sub; act = visit.act }
due-actor setting handset {visit} is =
    let found = option_map-some (visit_of handset.sub) (due_at setting handset handset.stage) visit is in
    subst (λ (v : Visit). v ≡ record { actor = handset.sub; act = v.act }) found.1 refl

-- the next visit of a subscriber is what its handset writes next, once a step is begun where one is left
next-due : {input : Contents} {setup : Setup} {view : View} {spare : ℕ} {mover : Mover} {result : Option Visit}
    → (part : IsMover input setup view spare mover) → result ≡ slice_get
    (visits (setting_in setup) mover.handset.sub part.its.steps) (length (puts_to view.low view.seen))
    → (result ≡ None → mover.begun ≡ length (steps_of (scripts_of input) view.low)) → next_of input setup view ≡ result
next-due {input} {setup} {view} {mover} {result} part is all =
    let setting = setting_in setup in
    let scripts = scripts_of input in
    let steps = steps_of scripts view.low in
    let n = length (puts_to view.low view.seen) in
    let its = part.its in
    let mine : result ≡ slice_get (visits setting view.low (take mover.begun steps)) n =
    rw (its.sub, part.begun.steps_are) at is in
    next-sub setting scripts view.seen view.low its.script.known ∙ rw part.begun.alone (at result mine all)
  where
    at : (r : Option Visit)
        → r ≡ slice_get (visits (setting_in setup) view.low (take mover.begun (steps_of (scripts_of input) view.low)))
        (length (puts_to view.low view.seen))
        → (r ≡ None → mover.begun ≡ length (steps_of (scripts_of input) view.low))
        → slice_get (visits (setting_in setup) view.low (steps_of (scripts_of input) view.low))
        (length (puts_to view.low view.seen)) ≡ r
    at None e whole =
        rw (take_all mover.begun (steps_of (scripts_of input) view.low) (omega (arith, whole refl))) at (sym e)
    at (Some visit) e whole =
        in-script (setting_in setup) view.low mover.begun (length (puts_to view.low view.seen))
        (steps_of (scripts_of input) view.low) visit (sym e)

pub next-due-of : {input : Contents} {setup : Setup} {view : View} {spare : ℕ} {mover : Mover}
    {result other : Option Visit} → (way : IsUnderWay input setup view spare mover)
    → result ≡ slice_get (visits (setting_in setup) mover.handset.sub way.0.its.steps)
    (length (puts_to view.low view.seen)) → result ≡ other → next_of input setup view ≡ other
next-due-of way is same =
    next-due way.0 is (λ none. way.1 (sym is ∙ none)) ∙ same

-- what is known where a step is left
pub record Ready (input : Contents) (setup : Setup) (view : View) (mover : Mover)
    (steps : List Step) (call : Call) : Type 0 where
  pub may : MayBegin setup.plan mover.handset call
  pub step : slice_get (steps_of (scripts_of input) view.low) mover.begun ≡ Some (step_of call)
  pub all : length (puts_to view.low view.seen) ≡ length (visits (setting_in setup) view.low steps)
  pub script : IsScript (setting_in setup) view.low (steps_of (scripts_of input) view.low)

pub ready : ScriptsAreValid → {input : Contents} {setup : Setup} {plan : PlanData} {distances : DistanceTable}
    {view : View} {spare : ℕ} {mover : Mover} {call : Call} → {next : Option Visit}
    → IsSetFor input setup plan distances → (part : IsMover input setup view spare mover) → next ≡ None
    → next ≡ due (setting_of plan []) mover.handset → mover.begun < length mover.script.items
    → call ≡ get_or mover.script.items mover.begun call → Ready input setup view mover part.its.steps call
ready scripts {input} {setup} {plan} {view} {mover} {call} set part idle is short reads =
    let setting = setting_in setup in
    let its = part.its in
    let low = part.begun.low in
    let valid = set.together.valid in
    let script = get_or input.scripts view.low [] in
    let same : call ≡ get_or script mover.begun call =
    reads ∙ ap (λ s. get_or s mover.begun call) part.begun.script in
    let none : due (setting_of plan []) mover.handset ≡ None = sym is ∙ idle in
    let shorter : mover.begun < length script = omega (arith, short, ap length part.begun.script) in
    let nothing : due setting mover.handset ≡ None = rw set.plan_is at none in
    let rest : IsRestAfter setting mover.handset.sub mover.handset its.steps (length (puts_to view.low view.seen)) =
    rests setting mover.handset its.steps (length (puts_to view.low view.seen)) its.stands nothing in
    let are : AreValid setting (scripts_of input) = scripts input setting valid (set-setting set) in
    let whole : IsScript setting view.low (steps_of (scripts_of input) view.low) =
    are.steps view.low its.script.known in
    let step : slice_get (steps_of (scripts_of input) view.low) mover.begun ≡ Some (step_of call) =
    step-at input view.low mover.begun call valid low shorter ∙ ap (λ c. Some (step_of c)) (sym same) in
    let is_step : IsStep call = subst IsStep (sym same)
    (course-steps input.format input.nodes (get_or input.homes view.low 0) false script mover.begun call
    (valid.courses view.low low) shorter) in
    record {
      may = may-begin setup.plan setup.homes mover.handset its.steps (length (puts_to view.low view.seen)) call rest
          is_step
          (rw (its.sub, part.begun.steps_are) (may-at setting (course_at (start setting view.low))
          (steps_of (scripts_of input) view.low) mover.begun (step_of call) whole.allowed step));
      step = step;
      all = rest.all ∙ ap (λ s. length (visits setting s its.steps)) its.sub;
      script = whole;
    }

-- a subscriber that has begun its next step
begun-more : {input : Contents} {setup : Setup} {view : View} {spare : ℕ} {old : Mover} (new : Mover) {call : Call}
    → (part : IsMover input setup view spare old) → Ready input setup view old part.its.steps call
    → GoesWith setup.plan new.handset → new.handset.sub ≡ old.handset.sub
    → StandsForSteps (setting_in setup) new.handset (part.its.steps ++ step_of call ∷ [])
    (length (puts_to view.low view.seen)) → new.script.items ≡ old.script.items → new.begun ≡ suc old.begun
    → (next : IsMover input setup view spare new) × (next.its.steps ≡ part.its.steps ++ step_of call ∷ [])
begun-more {input} {setup} {view} {old} new {call} part at goes same stands script more =
    let setting = setting_in setup in
    let all = steps_of (scripts_of input) view.low in
    let its = part.its in
    let steps : List Step = its.steps ++ step_of call ∷ [] in
    let are : steps ≡ take new.begun all =
    rw (part.begun.steps_are, more, take-more all old.begun (step_of call) at.step) in
    let n = length (puts_to view.low view.seen) in
    let longer = visits-longer setting view.low its.steps (step_of call) in
    let none : n - length (visits setting view.low its.steps) ≡ 0 = omega (arith, at.all) in
    let kept : take n (visits setting view.low its.steps) ≡ take n (visits setting view.low steps) =
    rw (
      visits-append setting view.low (course_at (start setting view.low)) its.steps (step_of call ∷ []),
      take-append n (visits setting view.low its.steps)
          (visits_in setting view.low (course_of setting view.low its.steps) (step_of call ∷ [])),
      none,
      append-nil (take n (visits setting view.low its.steps)),
    ) in (
      record {
        its = record {
          goes = goes;
          sub = same ∙ its.sub;
          steps = steps;
          script = record {
            known = at.script.known;
            begins = at.script.begins;
            allowed = rw are (may-take setting (course_at (start setting view.low)) all new.begun at.script.allowed);
          };
          stands = stands;
          made = its.made ∙ kept;
        };
        begun = record {
          low = part.begun.low;
          script = script ∙ part.begun.script;
          steps_are = are;
          few = omega (arith, more, slice_get_within all old.begun (step_of call) at.step);
          alone = part.begun.alone;
          room = part.begun.room;
        };
      },
      refl,
    )

-- and then it has a visit to make
begun-due : (setting : Setting) (sub : ℕ) {made : ℕ} (steps : List Step) (step : Step) {result : Option Visit}
    → made ≡ length (visits setting sub steps) → result ≡ slice_get (visits setting sub (steps ++ step ∷ [])) made
    → result ≢ None
begun-due setting sub {made} steps step all is none =
    let past = past-end (visits setting sub (steps ++ step ∷ [])) made (sym is ∙ none) in
    absurd (omega (arith, past, all, visits-longer setting sub steps step))

-- a step is under way
pub still-due : {input : Contents} {setup : Setup} {plan : PlanData} {distances : DistanceTable} {view : View}
    {spare : ℕ} {mover : Mover} {result : Option Visit} → IsSetFor input setup plan distances
    → (part : IsMover input setup view spare mover) → (StandsForSteps (setting_of plan setup.homes) mover.handset
    part.its.steps (length (puts_to view.low view.seen))
    → result ≡ slice_get (visits (setting_of plan setup.homes) mover.handset.sub part.its.steps)
    (length (puts_to view.low view.seen))) → is_some result ≡ true → IsUnderWay input setup view spare mover
still-due {setup} {view} {mover} {result} set part stands some =
    let made = length (puts_to view.low view.seen) in
    let here : result ≡ slice_get (visits (setting_in setup) mover.handset.sub part.its.steps) made =
    (rw set.plan_is at stands) part.its.stands in
    (part, λ none. let never : false ≡ true = rw (here ∙ none) at some in cc)

-- no step is left
pub all-begun : {input : Contents} {setup : Setup} {plan : PlanData} {distances : DistanceTable} {view : View}
    {spare : ℕ} {mover : Mover} → IsSetFor input setup plan distances → IsMover input setup view spare mover
    → length mover.script.items ≤ mover.begun → IsUnderWay input setup view spare mover
all-begun {input} {view} set part past = (
  part,
  λ _. omega (
    arith,
    past,
    part.begun.few,
    ap length part.begun.script,
    ap length (steps-are input view.low set.together.valid part.begun.low),
    length-map (get_or input.scripts view.low []) step_of,
  ),
)

-- the next step is begun
pub begun-now : {input : Contents} {setup : Setup} {plan : PlanData} {view : View} {spare : ℕ} {old : Mover}
    (new : Mover) {call : Call} → plan ≡ setup.plan → (part : IsMover input setup view spare old)
    → Ready input setup view old part.its.steps call → GoesWith plan new.handset → new.handset.sub ≡ old.handset.sub
    → (StandsForSteps (setting_of plan setup.homes) old.handset part.its.steps (length (puts_to view.low view.seen))
    → StandsForSteps (setting_of plan setup.homes) new.handset (part.its.steps ++ step_of call ∷ [])
    (length (puts_to view.low view.seen))) → new.script.items ≡ old.script.items → new.begun ≡ suc old.begun
    → IsUnderWay input setup view spare new
begun-now {setup} {view} {old} new {call} plan_is part at goes same stands script more =
    let made = length (puts_to view.low view.seen) in
    let here = subst (λ (p : PlanData). StandsForSteps (setting_of p setup.homes) old.handset part.its.steps made
    → StandsForSteps (setting_of p setup.homes) new.handset (part.its.steps ++ step_of call ∷ []) made) plan_is stands
    part.its.stands in
    let on = begun-more new part at (subst (λ (p : PlanData). GoesWith p new.handset) plan_is goes) same here script
    more in (
      on.0,
      λ none. absurd (begun-due (setting_in setup) view.low part.its.steps (step_of call) at.all
          (ap (λ s. slice_get (visits (setting_in setup) s on.0.its.steps) made) on.0.its.sub
          ∙ ap (λ ss. slice_get (visits (setting_in setup) view.low ss) made) on.1) none),
    )

-- a subscriber's pass has a visit of room where one is left
pub room-left : {input : Contents} {setup : Setup} {view : View} {spare : ℕ} {mover : Mover} {visit : Visit}
    → IsMover input setup view spare mover → next_of input setup view ≡ Some visit → 1 ≤ spare
room-left {input} {setup} {view} {visit} part is =
    let setting = setting_in setup in
    let scripts = scripts_of input in
    let there : slice_get (script_visits setting scripts view.low) (length (own view.low view.seen)) ≡ Some visit =
    sym (next-sub setting scripts view.seen view.low part.its.script.known) ∙ is in
    omega (
      arith,
      slice_get_within (script_visits setting scripts view.low) (length (own view.low view.seen)) visit there,
      part.begun.room,
    )

-- a subscriber's next put is made
put-made : {input : Contents} {setup : Setup} {old new : PassData} {first : Mover} (last : Mover) {visit : Visit}
    {ticket : ℕ} → (part : IsMover input setup old.view old.spare first) → due (setting_in setup) first.handset ≡ Some
    visit → next_of input setup old.view ≡ due (setting_in setup) first.handset → HasVisited old visit.act ticket new
    → HandsetGoesOn setup old.view new.view last.handset part.its.steps visit → last.script.items ≡ first.script.items
    → last.begun ≡ first.begun → HasMadeNext input setup old new × IsMover input setup new.view new.spare last
put-made {input} {setup} {old} {new} {first} last {visit} {ticket} part is next visited on script begun =
    let low : new.view.low ≡ old.view.low = visited.same.actor in
    let same : visit_by old.view visit.act ≡ visit =
    ap (λ a. record { actor = a; act = visit.act }) (sym part.its.sub)
    ∙ sym (due-actor (setting_in setup) first.handset is) in
    let mine : own old.view.low new.view.seen ≡ own old.view.low old.view.seen ++ visit ∷ [] =
    own-visited visited ∙ ap (λ v. own old.view.low old.view.seen ++ v ∷ []) same in
    let puts : puts_to old.view.low new.view.seen ≡ puts_to old.view.low old.view.seen ++ visit ∷ [] =
    rw low at on.puts in (
      record {
        act = visit.act;
        ticket = ticket;
        visited = visited;
        is_next = next ∙ (is ∙ ap Some (sym same));
      },
      record {
        its = on.own;
        begun = subst (λ a. HasBegun input setup a new.view.seen new.spare last on.own.steps) (sym low)
            (record {
              low = part.begun.low;
              script = script ∙ part.begun.script;
              steps_are = on.steps_are ∙ rw begun part.begun.steps_are;
              few = omega (arith, begun, part.begun.few);
              alone = rw (mine, puts, part.begun.alone);
              room = omega (
                arith,
                part.begun.room,
                visited.spare,
                ap length mine,
                length_push (own old.view.low old.view.seen) visit,
              );
            });
      },
    )

-- a turn is lost
mover-held : {input : Contents} {setup : Setup} {old new : PassData} {place : ℕ} {held : Held} {first : Mover}
    (last : Mover) → HasLost old place held new → IsMover input setup old.view old.spare first
    → last.handset ≡ first.handset → last.script.items ≡ first.script.items → last.begun ≡ first.begun
    → IsMover input setup new.view new.spare last
mover-held {input} {setup} {old} last lost part handset script begun =
    let its = part.its in
    rw lost.turn (record {
      its = record {
        goes = rw handset its.goes;
        sub = rw handset its.sub;
        steps = its.steps;
        script = its.script;
        stands = rw handset its.stands;
        made = its.made;
      };
      begun = record {
        low = part.begun.low;
        script = script ∙ part.begun.script;
        steps_are = rw begun part.begun.steps_are;
        few = omega (arith, begun, part.begun.few);
        alone = part.begun.alone;
        room = part.begun.room;
      };
    })

-- what comes of a put that is tried
pub put-on : {input : Contents} {setup : Setup} {plan : PlanData} (old new : PassData) {first : Mover} (last : Mover)
    (ticket : ℕ) → plan ≡ setup.plan → IsMover input setup old.view old.spare first
    → next_of input setup old.view ≡ due (setting_of plan []) first.handset
    → IsSome (due (setting_of plan []) first.handset) → IfSome (due (setting_of plan []) first.handset)
    (λ visit. HasVisited old visit.act ticket new) → IfSome (due (setting_of plan []) first.handset)
    (λ visit. (own : IsHandsetOf setup old.view first.handset) → HandsetGoesOn setup old.view new.view last.handset
    own.steps visit) → last.script.items ≡ first.script.items → last.begun ≡ first.begun
    → HasMadeNext input setup old new × IsMover input setup new.view new.spare last
put-on {input} {setup} {plan} old new {first} last ticket plan_is part next some made on script begun =
    let found = due-some (due (setting_of plan []) first.handset) some in
    put-made last part (subst (λ (p : PlanData). due (setting_of p []) first.handset ≡ Some found.0) plan_is found.1)
    (rw plan_is at next) (rw found.1 at made) ((rw found.1 at on) part.its) script begun

pub put-held : {input : Contents} {setup : Setup} (old new : PassData) {first : Mover} (last : Mover)
    (wanted : Option Visit) (held : Held) → next_of input setup old.view ≡ wanted → IsSome wanted
    → IfSome wanted (λ visit. HasLost old (act_node (setting_in setup) visit.act) held new)
    → IsMover input setup old.view old.spare first → last.handset ≡ first.handset
    → last.script.items ≡ first.script.items → last.begun ≡ first.begun → HasLostNext input setup old held new × IsMover
    input setup new.view new.spare last
put-held old new last (Some visit) held next some lost part handset script begun = (
  record { visit = visit; is_next = next; lost = lost },
  mover-held last lost part handset script begun,
)
put-held old new last None held next some lost part handset script begun = cc
