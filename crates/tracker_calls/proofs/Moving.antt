-- A whole move over the tracker, put by put.
use Rattle.std.proofs.Common.{◌≡◌, ℕ, suc, ◌+◌, ◌≤◌, true, false, not, List, [], ◌∷◌, ◌++◌, Option, Some, None, length, take, refl, sym, ap, ◌∙◌, subst, arith, append_assoc, length-append}
use Rattle.std.specs.Prelude.{option_map}
use Rattle.std.specs.Option.{is_some}
use Rattle.std.proofs.lemmas.List.{append-nil, append_cancel_left, length-map, take_all}
use Rattle.entry_word.specs.declared.visit.Act.{Act}
use Rattle.entry_word.specs.declared.visit.Visit.{Visit}
use Rattle.directory.specs.Courses.{Course, Step, move_to}
use Rattle.directory.specs.Histories.{own, puts_to}
use Rattle.directory.specs.Settings.{Setting}
use Rattle.directory.specs.StepLaws.{visits-append}
use Rattle.directory.specs.Writes.{Write, step_writes, visit_of, visits, writes}
use Rattle.handset.specs.Beginning.{begin_move, is_rest}
use Rattle.handset.specs.Condition.{GoesWith, HandsetData}
use Rattle.handset.specs.StepWrites.{after_write, due, due_at}
use Rattle.directory.specs.Amid.{course_of}
use Rattle.handset.specs.Stands.{StandsForSteps}
use Rattle.handset.specs.declared.stage.Stage.{Stage}
use Rattle.handset.specs.declared.stage.Stage.TheVariants.{Resting}
use Rattle.region_plan.specs.Plan.{PlanData}
use Rattle.region_plan.specs.Settings.{setting_of}
use Rattle.station.specs.Handsets.{IsHandsetOf}
use Rattle.station.specs.HandsetLaws.{at-rest, begun-handset, conditions}
use Rattle.station.specs.Passes.{PassData, actor_of}
use Rattle.station.specs.Plays.{visit_by}
use Rattle.station.specs.Setup.{Setup, setting_in}
use Rattle.station.specs.Visits.{IsSamePass}
use Rattle.tracker_calls.specs.Added.{HasTried}
use Rattle.tracker_calls.specs.Moves.{HasStepped}
use Rattle.tracker_calls.specs.WholeMoves.{MayMoveTo, after_writes, puts_of_move}
use Rattle.directory.specs.Statements.{MovesAreShort}
use Rattle.station.specs.TicketLaws.{own-visited}

-- a handset rests just where nothing is left
pub due-rests : (setting : Setting) (handset : HandsetData) (stage : Stage)
    → is_some (due_at setting handset stage) ≡ not (is_rest stage)
due-rests setting handset Resting = refl
due-rests setting handset stage = refl

mapped : {A B : Type 0} (f : A → B) (o : Option A) → is_some (option_map f o) ≡ is_some o
mapped f None = refl
mapped f (Some x) = refl

pub due-means : (setting : Setting) (handset : HandsetData)
    → is_some (due setting handset) ≡ not (is_rest handset.stage)
due-means setting handset =
    mapped (visit_of handset.sub) (due_at setting handset handset.stage) ∙ due-rests setting handset handset.stage

pub none-rests : (setting : Setting) (handset : HandsetData) → is_some (due setting handset) ≡ false
    → is_rest handset.stage ≡ true
none-rests setting handset none = grind (arith, due-means setting handset)

pub some-busy : (setting : Setting) (handset : HandsetData) → is_some (due setting handset) ≡ true
    → is_rest handset.stage ≡ false
some-busy setting handset some = grind (arith, due-means setting handset)

-- the actor of the visit that is due
due-actor : (sub : ℕ) (o : Option Write) {visit : Visit} → option_map (visit_of sub) o ≡ Some visit → visit.actor ≡ sub
due-actor sub None h = cc
due-actor sub (Some w) {visit} h = let e : visit_of sub w ≡ visit = cc in sym (ap (λ v. v.actor) e)

one-step : (setting : Setting) (course : Course) (step : Step)
    → writes setting course (step ∷ []) ≡ step_writes setting course step
unfolding writes
one-step setting course step = append-nil (step_writes setting course step)

move-visits : (setting : Setting) (sub : ℕ) (steps : List Step) (to : ℕ)
    → visits setting sub (steps ++ move_to to ∷ []) ≡ visits setting sub steps ++ puts_of_move setting sub steps to
move-visits setting sub steps to =
    grind (arith, visits-append, one-step)

-- the puts of a move that are made so far, by the pass that began it, and room for those that are left
pub record HasPut (setup : Setup) (begun : PassData) (from : HandsetData) (to : ℕ) (made : List ℕ)
    (pass : PassData) (handset : HandsetData) : Type 0 where
  pub steps : List Step
  pub stood : StandsForSteps (setting_in setup) from steps (length (puts_to (actor_of begun) begun.view.seen))
  pub all : puts_to (actor_of begun) begun.view.seen ≡ visits (setting_in setup) (actor_of begun) steps
  pub same : IsSamePass begun pass
  pub put : List Visit
  pub count : length put ≡ length made
  pub visits_are : own (actor_of begun) pass.view.seen ≡ own (actor_of begun) begun.view.seen ++ put
  pub puts : puts_to (actor_of begun) pass.view.seen ≡ puts_to (actor_of begun) begun.view.seen ++ put
  pub its : IsHandsetOf setup pass.view handset
  pub steps_are : its.steps ≡ steps ++ move_to to ∷ []
  pub goes_on : (own : IsHandsetOf setup begun.view from)
      → (its : IsHandsetOf setup pass.view handset) × (its.steps ≡ own.steps ++ move_to to ∷ [])
  pub after : handset ≡ after_writes (setting_in setup) (begin_move (setting_in setup) from to) (length made)
  pub room : length (visits (setting_in setup) (actor_of begun) (steps ++ move_to to ∷ []))
      ≤ length (puts_to (actor_of begun) pass.view.seen) + pass.spare

none-written : (setting : Setting) (handset : HandsetData) → handset ≡ after_writes setting handset 0
unfolding after_writes
none-written setting handset = refl

one-written : (setting : Setting) (handset : HandsetData) (count : ℕ)
    → after_write setting (after_writes setting handset count) (after_writes setting handset count).stage
    ≡ after_writes setting handset (suc count)
unfolding after_writes
one-written setting handset count = refl

-- a move that is begun
pub put-none : MovesAreShort → {setup : Setup} {pass : PassData} {handset begun : HandsetData} {to : ℕ}
    → (its : IsHandsetOf setup pass.view handset) → MayMoveTo setup.plan pass handset to
    → begun ≡ begin_move (setting_in setup) handset to → GoesWith setup.plan begun
    → ((steps : List Step) (made : ℕ) → StandsForSteps (setting_in setup) handset steps made
    → StandsForSteps (setting_in setup) begun (steps ++ move_to to ∷ []) made)
    → HasPut setup pass handset to [] pass begun
put-none short {setup} {pass} {handset} {begun} {to} its may is goes stands =
    let setting : Setting = setting_in setup in
    let sub : ℕ = pass.view.low in
    let puts = puts_to sub pass.view.seen in
    let rest = at-rest setting sub handset its.steps (length puts) its.sub its.stands
    (conditions setup.plan handset to may.begins).2 in
    let next = begun-handset setup pass.view handset begun to its may.begins is goes stands in
    record {
      steps = its.steps;
      stood = its.stands;
      all = its.made ∙ take_all (length puts) (visits setting sub its.steps) (omega (arith, rest.all));
      same = record { table = refl; seat = refl; setup = refl; actor = refl };
      put = [];
      count = refl;
      visits_are = sym (append-nil _);
      puts = sym (append-nil _);
      its = next.0;
      steps_are = next.1;
      goes_on = λ own. begun-handset setup pass.view handset begun to own may.begins is goes stands;
      after = is ∙ none-written setting (begin_move setting handset to);
      room = omega (
        arith,
        ap length (move-visits setting sub its.steps to),
        length-append (visits setting sub its.steps) (puts_of_move setting sub its.steps to),
        length-map (step_writes setting (course_of setting sub its.steps) (move_to to)) (visit_of sub),
        short setting (course_of setting sub its.steps) to,
        may.room,
        rest.all,
      );
    }

-- the same, as the code reads its plan
pub put-begun : MovesAreShort → {setup : Setup} {plan : PlanData} {pass : PassData} {handset begun : HandsetData}
    {to : ℕ} → plan ≡ setup.plan → (its : IsHandsetOf setup pass.view handset) → MayMoveTo plan pass handset to
    → begun ≡ begin_move (setting_of plan []) handset to → GoesWith plan begun
    → ((starts : List ℕ) (steps : List Step) (made : ℕ) → StandsForSteps (setting_of plan starts) handset steps made
    → StandsForSteps (setting_of plan starts) begun (steps ++ move_to to ∷ []) made)
    → HasPut setup pass handset to [] pass begun
put-begun short {setup} {pass} {handset} {begun} {to} same its may is goes stands =
    put-none short its (rw (← same) may) (rw (← same) is) (rw (← same) goes) (rw (← same) (stands setup.homes))

-- turns that are lost change nothing of it
pub put-tried : {setup : Setup} {begun : PassData} {from : HandsetData} {to : ℕ} {made : List ℕ} {node : ℕ}
    {pass tried : PassData} {handset : HandsetData} → HasTried node pass tried
    → HasPut setup begun from to made pass handset → HasPut setup begun from to made tried handset
put-tried lost at =
    rw lost.is (record {
      steps = at.steps;
      stood = at.stood;
      all = at.all;
      same = assumption;
      put = at.put;
      count = at.count;
      visits_are = at.visits_are;
      puts = at.puts;
      its = search;
      steps_are = at.steps_are;
      goes_on = λ own. let t = at.goes_on own in (search t.0, t.1);
      after = at.after;
      room = at.room;
    })

-- one put more
pub put-more : {setup : Setup} {begun : PassData} {from : HandsetData} {to : ℕ} {made : List ℕ} {pass new : PassData}
    {handset moved : HandsetData} {ticket : ℕ} → HasPut setup begun from to made pass handset
    → HasStepped setup pass handset ticket new moved → HasPut setup begun from to (made ++ ticket ∷ []) new moved
put-more {setup} {begun} {from} {to} {made} {pass} {new} {handset} {ticket} at stepped =
    let setting : Setting = setting_in setup in
    let goes = stepped.goes_on at.its in
    let visited = stepped.visited in
    let mine : actor_of pass ≡ actor_of begun = at.same.actor in
    let still : actor_of new ≡ actor_of begun = visited.same.actor ∙ mine in
    let visit : Visit = stepped.visit in
    let by : visit.actor ≡ actor_of pass =
    due-actor handset.sub (due_at setting handset handset.stage) stepped.next ∙ at.its.sub in
    let whole : visit_by pass.view visit.act ≡ visit =
    ap (λ (a : ℕ). the_visit a visit.act) (sym by) in
    let more : own (actor_of pass) new.view.seen ≡ own (actor_of pass) pass.view.seen ++ visit ∷ [] =
    own-visited visited ∙ ap (λ v. own (actor_of pass) pass.view.seen ++ v ∷ []) whole in
    let puts : puts_to (actor_of begun) new.view.seen ≡ puts_to (actor_of begun) pass.view.seen ++ visit ∷ [] =
    ap (λ a. puts_to a new.view.seen) (sym still)
    ∙ (goes.puts ∙ ap (λ a. puts_to a pass.view.seen ++ visit ∷ []) mine) in
    let one : length (made ++ ticket ∷ []) ≡ suc (length made) = omega (arith, length-append made (ticket ∷ [])) in
    record {
      steps = at.steps;
      stood = at.stood;
      all = at.all;
      same = search arith;
      put = at.put ++ visit ∷ [];
      count = omega (arith, at.count, one, length-append at.put (visit ∷ []));
      visits_are = subst (λ a. own a new.view.seen ≡ own a pass.view.seen ++ visit ∷ []) mine more
          ∙ (ap (λ l. l ++ visit ∷ []) at.visits_are ∙ append_assoc _ at.put (visit ∷ []));
      puts = puts ∙ (ap (λ l. l ++ visit ∷ []) at.puts ∙ append_assoc _ at.put (visit ∷ []));
      its = goes.own;
      steps_are = goes.steps_are ∙ at.steps_are;
      goes_on = λ own. let t = at.goes_on own in
          let on = stepped.goes_on t.0 in
          (on.own, on.steps_are ∙ t.1);
      after = stepped.made ∙ (ap (λ h. after_write setting h h.stage) at.after
          ∙ (one-written setting (begin_move setting from to) (length made)
          ∙ ap (after_writes setting (begin_move setting from to)) (sym one)));
      room = omega (
        arith,
        at.room,
        visited.spare,
        ap length puts,
        length-append (puts_to (actor_of begun) pass.view.seen) (visit ∷ []),
      );
    }
  where
    the_visit : ℕ → Act → Visit
    the_visit a act = record { actor = a; act = act }

-- how many puts are made, in the steps that the handset stands for
stands-for : {setup : Setup} {begun : PassData} {from : HandsetData} {to : ℕ} {made : List ℕ} {pass : PassData}
    {handset : HandsetData} → (at : HasPut setup begun from to made pass handset)
    → (handset.sub ≡ actor_of begun) × StandsForSteps (setting_in setup) handset (at.steps ++ move_to to ∷ [])
    (length (puts_to (actor_of begun) pass.view.seen))
stands-for {setup} {to} {pass} {handset} at = grind arith

-- once nothing is left, these are all puts of the move
pub put-all : {setup : Setup} {begun : PassData} {from : HandsetData} {to : ℕ} {made : List ℕ} {pass : PassData}
    {handset : HandsetData} → (at : HasPut setup begun from to made pass handset) → is_rest handset.stage ≡ true
    → at.put ≡ puts_of_move (setting_in setup) (actor_of begun) at.steps to
put-all {setup} {begun} {to} {pass} {handset} at rests =
    let setting : Setting = setting_in setup in
    let sub = actor_of begun in
    let steps = at.steps ++ move_to to ∷ [] in
    let stands = stands-for at in
    let puts = puts_to sub pass.view.seen in
    let rest = at-rest setting sub handset steps (length puts) stands.0 stands.1 rests in
    let made_are : puts ≡ take (length puts) (visits setting sub steps) =
    rw (← at.same.actor, ← at.steps_are) at.its.made in
    let whole : puts ≡ visits setting sub steps =
    made_are ∙ take_all (length puts) (visits setting sub steps) (omega (arith, rest.all)) in
    append_cancel_left (visits setting sub at.steps) at.put (puts_of_move setting sub at.steps to)
    (ap (λ l. l ++ at.put) (sym at.all) ∙ (sym at.puts ∙ (whole ∙ move-visits setting sub at.steps to)))
