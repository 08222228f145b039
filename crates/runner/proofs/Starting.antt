-- What a worker does before its first visit, and how many visits it makes at most.
use Rattle.std.proofs.Common.{◌≡◌, ℕ, ◌<◌, ◌≤◌, List, [], length, map, get_or, refl, sym, ap, ◌∙◌, arith}
use Rattle.std.proofs.lemmas.List.{length-map}
use Rattle.directory.specs.Settings.{Setting, start}
use Rattle.directory.specs.Courses.{course_at}
use Rattle.directory.specs.Finds.{at_origin}
use Rattle.directory.specs.Histories.{own, puts_to, words_after}
use Rattle.directory.specs.Legal.{IsScript}
use Rattle.directory.specs.Orders.{Caller as Seeker, Scripts, caller_at, caller_in, finds_of, steps_of}
use Rattle.directory.specs.Statements.{CallersKept, MovesAreShort}
use Rattle.directory.specs.Writes.{visit_of, writes}
use Rattle.handset.specs.Condition.{GoesWith}
use Rattle.handset.specs.Stands.{StandsForSteps}
use Rattle.machine.specs.Stands.{BeginInside, IsWalking}
use Rattle.net_reader.specs.declared.said.Call.{Call}
use Rattle.net_reader.specs.declared.said.Call.TheVariants as calls
use Rattle.net_reader.specs.Input.{Contents}
use Rattle.region_plan.specs.Plan.{PlanData, nodes_of}
use Rattle.region_plan.specs.Settings.{setting_of}
use Rattle.scripts.specs.Laws.{ScriptsAreValid}
use Rattle.scripts.specs.MostLaws.{finds-most, steps-most}
use Rattle.scripts.specs.ScriptLaws.{finds-are, steps-are}
use Rattle.scripts.specs.Scripts.{find_of, most_in, scripts_of, step_of}
use Rattle.station.specs.HandsetLaws.{no-steps}
use Rattle.station.specs.Setup.{Setup, setting_in}
use Rattle.station.specs.declared.view.View.{View}
use Rattle.runner.specs.PlayLaws.{caller-in}
use Rattle.runner.specs.Roles.{IsFinder, IsMover, IsSetFor, MayStart}
use Rattle.runner.specs.declared.finder.Finder.{Finder}
use Rattle.runner.specs.declared.mover.Mover.{Mover}
use Rattle.runner.proofs.Finding.{looks-origin, room-of, set-setting}
use Rattle.machine.specs.ScriptVisits.{script-inside, script-searches}

-- all finds of an actor's script begin at nodes of the plan
pub begin-inside : {input : Contents} {plan : PlanData} {actor : ℕ} {script : List Call} → MayStart input plan actor
    → script ≡ get_or input.scripts actor [] → BeginInside (nodes_of plan) script
begin-inside {actor = actor} may same =
    rw (same, may.together.nodes) (script-inside actor may.together.valid may.known)

-- a new subscriber's part
pub mover-at : ScriptsAreValid → MovesAreShort → {input : Contents} {plan : PlanData} {actor visits : ℕ} (mover : Mover)
    → actor < length input.homes → mover.script.items ≡ get_or input.scripts actor [] → mover.begun ≡ 0
    → mover.handset.sub ≡ actor → GoesWith plan mover.handset
    → ((starts : List ℕ) → starts ≡ input.homes → StandsForSteps (setting_of plan starts) mover.handset [] 0)
    → ((starts : List ℕ) → visits ≡ most_in (setting_of plan starts) mover.script.items)
    → (setup : Setup) (view : View) (spare : ℕ) → IsSetFor input setup plan plan.distances → view.low ≡ actor
    → own actor view.seen ≡ [] → puts_to actor view.seen ≡ [] → visits ≤ spare → IsMover input setup view spare mover
mover-at scripts short {input} mover low script begun sub goes stands most setup view spare set is none
    bare enough =
    let setting = setting_in setup in
    let valid = scripts input setting set.together.valid (set-setting set) in
    let sub_low : view.low < length input.homes = omega (arith, low, is) in
    let whole : IsScript setting view.low (steps_of (scripts_of input) view.low) =
    valid.steps view.low (omega (arith, sub_low, ap length set.homes)) in
    let empty : puts_to view.low view.seen ≡ [] = ap (λ a. puts_to a view.seen) is ∙ bare in
    let nothing : own view.low view.seen ≡ [] = ap (λ a. own a view.seen) is ∙ none in
    let its : mover.script.items ≡ get_or input.scripts view.low [] =
    script ∙ ap (λ a. get_or input.scripts a []) (sym is) in
    let course = course_at (start setting view.low) in
    record {
      its = record {
        goes = rw set.plan_is at goes;
        sub = sub ∙ sym is;
        steps = [];
        script = record {
          known = whole.known;
          begins = whole.begins;
          allowed = no-steps setting course;
        };
        stands = rw empty (rw set.plan_is at (stands setup.homes set.homes));
        made = rw empty;
      };
      begun = record {
        low = sub_low;
        script = its;
        steps_are = rw begun;
        few = omega (arith, begun);
        alone = nothing ∙ sym empty;
        room = omega (
          arith,
          enough,
          most setup.homes,
          ap (λ p. most_in (setting_of p setup.homes) mover.script.items) set.plan_is,
          ap (most_in setting) its,
          steps-most short setting course (get_or input.scripts view.low []),
          length-map (writes setting course (map step_of (get_or input.scripts view.low []))) (visit_of view.low),
          ap (λ ss. length (map (visit_of view.low) (writes setting course ss)))
              (steps-are input view.low set.together.valid sub_low),
        );
      };
    }

-- a caller before its first look
caller-new : (setting : Setting) (scripts : Scripts) (actor : ℕ)
    → caller_in setting scripts [] actor ≡ caller_at (finds_of setting scripts actor)
unfolding words_after
caller-new setting scripts actor = refl

-- a new caller's part
pub finder-at : CallersKept → {input : Contents} {plan : PlanData} {actor visits : ℕ} (finder : Finder)
    → length input.homes ≤ actor → actor < length input.scripts → finder.script.items ≡ get_or input.scripts actor []
    → finder.subs ≡ length input.homes → finder.done ≡ 0 → IsWalking plan (map find_of finder.script.items) at_origin
    finder.walk → ((starts : List ℕ) → visits ≡ most_in (setting_of plan starts) finder.script.items)
    → {setup : Setup} (view : View) (spare : ℕ) → IsSetFor input setup plan plan.distances → view.low ≡ actor
    → own actor view.seen ≡ [] → visits ≤ spare → IsFinder input setup view.low view.seen spare finder
finder-at kept {input} {plan} {actor} finder high low script subs done walk most {setup} view spare set is none enough =
    let setting = setting_in setup in
    let scripts = scripts_of input in
    let finds = finds_of setting scripts actor in
    let all : finds ≡ map find_of finder.script.items =
    finds-are input setting actor set.homes high low ∙ ap (map find_of) (sym script) in
    let new : caller_in setting scripts view.seen actor ≡ caller_at finds =
    caller-in kept setting scripts actor [] view.seen refl none ∙ caller-new setting scripts actor in
    let calls_are : (caller_in setting scripts view.seen actor).calls ≡ finds = ap (λ (s : Seeker). s.calls) new in
    let pursuit : (caller_in setting scripts view.seen actor).pursuit ≡ at_origin =
    ap (λ (s : Seeker). s.pursuit) new in
    rw is (record {
      high = high;
      low = low;
      script = script;
      subs = subs;
      walk = rw (pursuit, calls_are, all) (rw set.plan_is at walk);
      left = rw (calls_are, done);
      room = room-of setting spare (calls_are ∙ all) pursuit (omega (
        arith,
        enough,
        most setup.homes,
        ap (λ p. most_in (setting_of p setup.homes) finder.script.items) set.plan_is,
        looks-origin setting (map find_of finder.script.items),
        finds-most setting (nodes_of plan) (length input.homes) finder.script.items
            (script-searches plan actor set.together.valid set.together.nodes high low script refl),
      ));
    })
