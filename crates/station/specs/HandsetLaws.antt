-- Short laws of handsets and passes, for the crates above. Key laws: `new-handset` (a new handset
-- goes with the fresh pass of its subscriber), `begun-handset` and `switched-handset` (one that
-- begins a move, or a switch, still goes with its pass), `at-rest` (what a handset tells of its
-- course, and that all visits are made).
use Rattle.std.proofs.Common.{◌≡◌, ◌≢◌, ℕ, suc, ◌-◌, ◌^◌, ◌<◌, ◌≤◌, ◌==◌, Bool, true, false, not, List, [], ◌∷◌, ◌++◌, Some, None, length, take, refl, sym, ap, ◌∙◌, subst, arith}
use Rattle.std.specs.Prelude.{nat_le, if◌then◌else◌}
use Rattle.std.proofs.lemmas.Bool.{eqb-false, leb-false}
use Rattle.std.proofs.lemmas.List.{append-nil}
use Rattle.directory.specs.Courses.{Course, MayStep, MaySteps, Step, after_step, after_steps, course_at, move_to}
use Rattle.directory.specs.Histories.{puts_to}
use Rattle.directory.specs.Settings.{Setting, start}
use Rattle.directory.specs.StepLaws.{take-append, visits-append, visits_in}
use Rattle.directory.specs.Writes.{visits}
use Rattle.handset.specs.Beginning.{begin_move, is_rest, move_fault, same_state, switch_fault}
use Rattle.handset.specs.Condition.{GoesWith, HandsetData, begun_at}
use Rattle.directory.specs.Amid.{course_of}
use Rattle.handset.specs.Stands.{StandsForSteps, switch_to}
use Rattle.handset.specs.declared.fault.MoveFault.TheVariants.{NoNode, SamePlace, UnderWay, IsOff, NumbersSpent}
use Rattle.handset.specs.declared.fault.SwitchFault.TheVariants.{UnderWay as StillUnderWay, Already}
use Rattle.handset.specs.declared.stage.Stage.{Stage}
use Rattle.handset.specs.declared.stage.Stage.TheVariants.{Switching}
use Rattle.region_plan.specs.Plan.{PlanData, nodes_of}
use Rattle.station.specs.Handsets.{IsHandsetOf}
use Rattle.station.specs.Passes.{fresh_view}
use Rattle.station.specs.Setup.{Setup, nodes_in, setting_in, subs_in}
use Rattle.station.specs.declared.view.View.{View}
use Rattle.handset.specs.StageLaws.{rest-means, IsRestAfter, rest-after}

-- no steps may always be made
pub no-steps : (setting : Setting) (course : Course) → MaySteps setting course []
unfolding MaySteps
no-steps setting course = tt

-- a new handset
pub new-handset : (setup : Setup) (handset : HandsetData) (sub : ℕ)
    → GoesWith setup.plan handset → handset.sub ≡ sub → sub < subs_in setup
    → start (setting_in setup) sub < nodes_in setup
    → StandsForSteps (setting_in setup) handset [] 0
    → IsHandsetOf setup (fresh_view setup sub) handset
new-handset setup handset sub goes same known begins stands =
    record {
      goes = goes;
      sub = same;
      steps = [];
      script = record {
        known = known;
        begins = begins;
        allowed = no-steps (setting_in setup) (course_at (start (setting_in setup) sub));
      };
      stands = stands;
      made = refl;
    }

-- a handset at rest stands at the end of the course of its steps
pub at-rest : (setting : Setting) (sub : ℕ) (handset : HandsetData) (steps : List Step) (made : ℕ)
    → handset.sub ≡ sub → StandsForSteps setting handset steps made → is_rest handset.stage ≡ true
    → IsRestAfter setting sub handset steps made
at-rest setting sub handset steps made same stands rests =
    subst (λ s. IsRestAfter setting s handset steps made) same
    (rest-after setting handset steps made stands (rest-means handset.stage rests))

-- what it means that a move may begin
abbrev pub Conditions : PlanData → HandsetData → ℕ → Type 0
Conditions plan handset to =
    (to < nodes_of plan) × (to ≢ handset.place) × (is_rest handset.stage ≡ true)
    × (handset.is_off ≡ false) × (handset.number ≢ 2 ^ 32 - 1)

-- where no fault is found, none is there
no-fault : (a b c d e : Bool)
    → (if a then Some NoNode else if b then Some SamePlace else if not c then Some UnderWay
    else if d then Some IsOff else if e then Some NumbersSpent else None) ≡ None
    → (a ≡ false) × (b ≡ false) × (c ≡ true) × (d ≡ false) × (e ≡ false)
no-fault true b c d e h = cc
no-fault false true c d e h = cc
no-fault false false false d e h = cc
no-fault false false true true e h = cc
no-fault false false true false true h = cc
no-fault false false true false false h = (refl, refl, refl, refl, refl)

-- where a move has no fault, it may begin
pub conditions : (plan : PlanData) (handset : HandsetData) (to : ℕ)
    → move_fault plan handset to ≡ None → Conditions plan handset to
conditions plan handset to none =
    let all = no-fault (nat_le (nodes_of plan) to) (to == handset.place) (is_rest handset.stage)
    handset.is_off (handset.number == 2 ^ 32 - 1) none in (
      leb-false (nodes_of plan) to all.0,
      eqb-false to handset.place all.1,
      all.2,
      all.3,
      eqb-false handset.number (2 ^ 32 - 1) all.4,
    )

-- steps that may be made, and one more
may-more : (setting : Setting) (course : Course) (steps : List Step) (step : Step)
    → MaySteps setting course steps → MayStep setting (after_steps setting course steps) step
    → MaySteps setting course (steps ++ step ∷ [])
unfolding MaySteps
may-more setting course [] step all one = (one, tt)
may-more setting course (first ∷ steps) step all one =
    (all.0, may-more setting (after_step setting course first) steps step all.1 one)

-- more steps keep the visits that are made
made-still : (setting : Setting) (sub made : ℕ) (steps : List Step) (step : Step)
    → made ≤ length (visits setting sub steps)
    → take made (visits setting sub steps) ≡ take made (visits setting sub (steps ++ step ∷ []))
made-still setting sub made steps step few =
    let all = visits setting sub steps in
    let more = visits_in setting sub (course_of setting sub steps) (step ∷ []) in
    let none : made - length all ≡ 0 = omega (arith, few) in
    sym (ap (take made)
    (visits-append setting sub (course_at (start setting sub)) steps (step ∷ []))
    ∙ (take-append made all more
    ∙ (ap (λ k. take made all ++ take k more) none ∙ append-nil (take made all))))

-- a handset that has begun a step that may come behind its steps
more-handset : (setup : Setup) (view : View) (handset begun : HandsetData) (step : Step)
    → (its : IsHandsetOf setup view handset) → is_rest handset.stage ≡ true
    → begun.sub ≡ handset.sub → GoesWith setup.plan begun
    → MayStep (setting_in setup) (course_of (setting_in setup) view.low its.steps) step
    → ((steps : List Step) (made : ℕ) → StandsForSteps (setting_in setup) handset steps made
    → StandsForSteps (setting_in setup) begun (steps ++ step ∷ []) made)
    → (next : IsHandsetOf setup view begun) × (next.steps ≡ its.steps ++ step ∷ [])
more-handset setup view handset begun step its rests same goes may stands =
    let setting : Setting = setting_in setup in
    let puts = puts_to view.low view.seen in
    let rest = at-rest setting view.low handset its.steps (length puts) its.sub its.stands
    rests in (
      record {
        goes = goes;
        sub = same ∙ its.sub;
        steps = its.steps ++ step ∷ [];
        script = record {
          known = its.script.known;
          begins = its.script.begins;
          allowed = may-more setting (course_at (start setting view.low)) its.steps step
              its.script.allowed may;
        };
        stands = stands its.steps (length puts) its.stands;
        made = its.made ∙ made-still setting view.low (length puts) its.steps step
            (omega (arith, rest.all));
      },
      refl,
    )

-- a handset that has begun a move
pub begun-handset : (setup : Setup) (view : View) (handset begun : HandsetData) (to : ℕ)
    → (its : IsHandsetOf setup view handset) → move_fault setup.plan handset to ≡ None
    → begun ≡ begin_move (setting_in setup) handset to → GoesWith setup.plan begun
    → ((steps : List Step) (made : ℕ) → StandsForSteps (setting_in setup) handset steps made
    → StandsForSteps (setting_in setup) begun (steps ++ move_to to ∷ []) made)
    → (next : IsHandsetOf setup view begun) × (next.steps ≡ its.steps ++ move_to to ∷ [])
begun-handset setup view handset begun to its begins is goes stands =
    let setting : Setting = setting_in setup in
    let puts = puts_to view.low view.seen in
    let holds = conditions setup.plan handset to begins in
    let rest = at-rest setting view.low handset its.steps (length puts) its.sub its.stands
    holds.2 in
    let few : handset.number < 2 ^ 32 = omega (
      arith,
      its.goes.numbered,
      its.goes.counted,
      ap (λ (stage : Stage). begun_at stage handset.number) (rest-means handset.stage holds.2),
    ) in
    more-handset setup view handset begun (move_to to) its holds.2 (ap (λ h. h.sub) is) goes
    (record {
      inside = holds.0;
      moving = λ e. holds.1 (e ∙ sym rest.place);
      is_on = sym rest.is_off ∙ holds.3;
      few = below handset.number _ rest.number few holds.4;
    }) stands
  where
    below : (a b : ℕ) → a ≡ b → a < 2 ^ 32 → a ≢ 2 ^ 32 - 1 → suc b < 2 ^ 32
    below a b e f g = omega (arith, e, f, g)

-- where a switch has no fault, the handset rests, and is in the other state
pub switch-conditions : (handset : HandsetData) (off : Bool) → switch_fault handset off ≡ None
    → (is_rest handset.stage ≡ true) × (same_state handset.is_off off ≡ false)
switch-conditions handset off none =
    unfaulty (is_rest handset.stage) (same_state handset.is_off off) none
  where
    unfaulty : (rests same : Bool)
        → (if not rests then Some StillUnderWay else if same then Some Already else None) ≡ None
        → (rests ≡ true) × (same ≡ false)
    unfaulty false same h = cc
    unfaulty true true h = cc
    unfaulty true false h = (refl, refl)

-- a switch to the other state may come
may-switch : (setting : Setting) (course : Course) (was off : Bool) → was ≡ course.is_off
    → same_state was off ≡ false → MayStep setting course (switch_to off)
may-switch setting course true true is differs = cc
may-switch setting course true false is differs = sym is
may-switch setting course false true is differs = sym is
may-switch setting course false false is differs = cc

-- a handset that has begun a switch
pub switched-handset : (setup : Setup) (view : View) (handset switched : HandsetData) (off : Bool)
    → (its : IsHandsetOf setup view handset) → switch_fault handset off ≡ None
    → switched ≡ record handset { stage = Switching off } → GoesWith setup.plan switched
    → ((steps : List Step) (made : ℕ) → StandsForSteps (setting_in setup) handset steps made
    → StandsForSteps (setting_in setup) switched (steps ++ switch_to off ∷ []) made)
    → (next : IsHandsetOf setup view switched) × (next.steps ≡ its.steps ++ switch_to off ∷ [])
switched-handset setup view handset switched off its begins is goes stands =
    let setting : Setting = setting_in setup in
    let holds = switch-conditions handset off begins in
    let rest = at-rest setting view.low handset its.steps (length (puts_to view.low view.seen))
    its.sub its.stands holds.0 in
    more-handset setup view handset switched (switch_to off) its holds.0 (ap (λ h. h.sub) is) goes
    (may-switch setting (course_of setting view.low its.steps) handset.is_off off rest.is_off
    holds.1) stands
