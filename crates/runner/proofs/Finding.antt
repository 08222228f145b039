-- A caller's part of a worker: its next look is made.
use Rattle.std.proofs.Common.{◌≡◌, ℕ, suc, ◌+◌, ◌-◌, ◌<◌, ◌≤◌, ◌^◌, true, List, [], ◌∷◌, Option, length, map, drop, get_or, refl, sym, ap, ◌∙◌, subst, arith}
use Rattle.std.specs.Prelude.{Some, None, sum_by}
use Rattle.std.specs.Option.{is_some}
use Rattle.std.proofs.lemmas.List.{length-map, length-drop}
use Rattle.std.proofs.lemmas.List.Sums.{sum_by-cons}
use Rattle.entry_word.specs.declared.visit.Act.TheVariants.{Look}
use Rattle.directory.specs.Settings.{Setting}
use Rattle.directory.specs.Finds.{FindCall, Pursuit, after_word, answer_of, at_origin, chases, climbs, ended, key_of, looks_left, most_looks}
use Rattle.directory.specs.Histories.{History, before, cell}
use Rattle.directory.specs.Looks.{look_by}
use Rattle.directory.specs.HistoryLaws.{next-caller}
use Rattle.directory.specs.Orders.{AreValid, Caller as Seeker, IsFindCall, after_read, caller_in, finds_of, with_pursuit}
use Rattle.directory.specs.Statements.{CallersKept, CallersRead, LooksFall}
use Rattle.directory.specs.declared.answers.Found.{Found}
use Rattle.distances.specs.Table.{DistanceTable}
use Rattle.machine.specs.Stands.{IsWalking}
use Rattle.machine.specs.WalkingLaws.{Walks, drop-more, read-on, walking}
use Rattle.net_reader.specs.Input.{Contents}
use Rattle.net_reader.specs.Valid.{IsValid}
use Rattle.region_plan.specs.Plan.{PlanData, nodes_of}
use Rattle.scripts.specs.Laws.{ScriptsAreValid}
use Rattle.scripts.specs.ScriptLaws.{calls-few, finds-are}
use Rattle.scripts.specs.Scripts.{IsSettingOf, find_of, scripts_of}
use Rattle.station.specs.Passes.{PassData}
use Rattle.station.specs.Setup.{Setup, setting_in, subs_in}
use Rattle.station.specs.Visits.{HasVisited}
use Rattle.station.specs.declared.turns.Held.{Held}
use Rattle.walk.specs.Walks.{IsWalkOver, WalkData, call_of, pursuit_of}
use Rattle.runner.specs.Playing.{HasLostNext, HasMadeNext, looks_after}
use Rattle.runner.specs.PlayLaws.{caller-in}
use Rattle.station.specs.Walking.{HasLookedOn, HasLostLook}
use Rattle.runner.specs.Roles.{IsFinder, IsSetFor}
use Rattle.runner.specs.declared.finder.Finder.{Finder}
use Rattle.std.proofs.Math.Seq.{take-append_seam}

-- the walk of a caller's part
pub walking-of : {input : Contents} {setup : Setup} {actor : ℕ} {seen : History} {spare : ℕ} {finder : Finder}
    {walk : WalkData} → IsFinder input setup actor seen spare finder → finder.walk ≡ Some walk
    → Walks setup.plan (caller_in (setting_in setup) (scripts_of input) seen actor).calls
    (caller_in (setting_in setup) (scripts_of input) seen actor).pursuit walk
walking-of {input} {setup} {actor} {seen} {finder} {walk} its some =
    walking setup.plan (caller_in (setting_in setup) (scripts_of input) seen actor).calls
    (caller_in (setting_in setup) (scripts_of input) seen actor).pursuit finder.walk walk some its.walk

-- what an option holds, by its test
pub some-is : {A : Type 0} (o : Option A) → is_some o ≡ true → (x : A) × (o ≡ Some x)
some-is None h = cc
some-is (Some x) h = (x, refl)

-- the setting of a tracker is one of the input that it is set for
pub set-setting : {input : Contents} {setup : Setup} {plan : PlanData} {distances : DistanceTable}
    → IsSetFor input setup plan distances → IsSettingOf input (setting_in setup)
set-setting {input} set = record {
  nodes = subst (λ (p : PlanData). nodes_of p ≡ input.nodes) set.plan_is set.together.nodes;
  starts = set.homes;
}

-- the find that a caller is at is one of its script
call-known : (input : Contents) (setup : Setup) (actor n : ℕ) {call : FindCall} {later : List FindCall}
    → AreValid (setting_in setup) (scripts_of input) → setup.homes ≡ input.homes → length input.homes ≤ actor
    → actor < length input.scripts → call ∷ later ≡ drop n (finds_of (setting_in setup) (scripts_of input) actor)
    → IsFindCall (setting_in setup) call
call-known input setup actor n {call} {later} valid homes high low left =
    let at = drop-more n (finds_of (setting_in setup) (scripts_of input) actor) call later left in
    let short : actor - subs_in setup < length (scripts_of input).finds =
    omega (
      arith,
      high,
      low,
      ap length homes,
      length-map (drop (length input.homes) input.scripts) (map find_of),
      length-drop (length input.homes) input.scripts,
    ) in
    subst (IsFindCall (setting_in setup)) (at.2 call) (valid.finds (actor - subs_in setup) [] short n call at.0)

-- so its subscriber is known
pub walk-known : ScriptsAreValid → {input : Contents} {setup : Setup} {plan : PlanData} {distances : DistanceTable}
    {actor : ℕ} {seen : History} {spare : ℕ} {finder : Finder} {walk : WalkData} → IsSetFor input setup plan distances
    → IsFinder input setup actor seen spare finder → finder.walk ≡ Some walk → walk.sub < subs_in setup
walk-known scripts {input} {setup} {actor} {seen} {finder} {walk} set its some =
    let setting = setting_in setup in
    let seeker = caller_in setting (scripts_of input) seen actor in
    let at = walking setup.plan seeker.calls seeker.pursuit finder.walk walk some its.walk in
    let valid = scripts input setting set.together.valid (set-setting set) in
    let known = call-known input setup actor finder.done valid set.homes its.high its.low
    (sym at.calls_are ∙ its.left) in
    subst (λ (c : FindCall). c.sub < subs_in setup) (sym at.its) known.known

-- the looks that are left of a find without an answer are some
left-some : (setting : Setting) (call : FindCall) (pursuit : Pursuit) → answer_of pursuit ≡ None
    → 1 ≤ looks_left setting call pursuit
left-some setting call at_origin none = omega arith
left-some setting call (climbs known weight reader later) none = omega arith
left-some setting call (chases chase node) none = omega arith
left-some setting call (ended found) none = cc

-- so there is room for one
pub look-room : {input : Contents} {setup : Setup} {actor : ℕ} {seen : History} {spare : ℕ} {finder : Finder}
    {walk : WalkData} → IsFinder input setup actor seen spare finder → finder.walk ≡ Some walk → 1 ≤ spare
look-room {input} {setup} {actor} {seen} {finder} {walk} its some =
    let setting = setting_in setup in
    let seeker = caller_in setting (scripts_of input) seen actor in
    let at = walking setup.plan seeker.calls seeker.pursuit finder.walk walk some its.walk in
    omega (
      arith,
      left-some setting at.call seeker.pursuit at.unanswered,
      its.room,
      ap (λ cs. looks_after setting cs seeker.pursuit) at.calls_are,
    )

-- the looks that are left before a first look
pub looks-origin : (setting : Setting) (finds : List FindCall)
    → looks_after setting finds at_origin ≡ sum_by (λ (find : FindCall). most_looks setting find.from) finds
looks-origin setting [] = refl
looks-origin setting (call ∷ later) = sym (sum_by-cons (λ (find : FindCall). most_looks setting find.from) call later)

pub room-of : (setting : Setting) (spare : ℕ) {one two : List FindCall} {pursuit other : Pursuit} → one ≡ two
    → pursuit ≡ other → looks_after setting two other ≤ spare → looks_after setting one pursuit ≤ spare
room-of setting spare e f room = rw (e, f) room

-- a caller that has a walk has done fewer finds than its script has, and these are few
pub done-low : {input : Contents} {setup : Setup} {actor : ℕ} {seen : History} {spare : ℕ} {finder : Finder}
    {walk : WalkData} → IsValid input → setup.homes ≡ input.homes → IsFinder input setup actor seen spare finder
    → finder.walk ≡ Some walk → finder.done < 2 ^ 32 - 1
done-low {input} {setup} {actor} {seen} {finder} {walk} valid homes its some =
    let setting = setting_in setup in
    let seeker = caller_in setting (scripts_of input) seen actor in
    let at = walking setup.plan seeker.calls seeker.pursuit finder.walk walk some its.walk in
    let more = drop-more finder.done (finds_of setting (scripts_of input) actor) at.call at.later
    (sym at.calls_are ∙ its.left) in
    omega (
      arith,
      more.0,
      ap length (finds-are input setting actor homes its.high its.low),
      length-map (get_or input.scripts actor []) find_of,
      calls-few input actor valid,
    )

-- a caller that has lost a turn: it was at the node of its next visit, and the caller stays as it was
pub lost-look : {input : Contents} {setup : Setup} {old new : PassData} {first last : Finder} {walk moved : WalkData}
    {held : Held} → setup.homes ≡ input.homes → IsFinder input setup old.view.low old.view.seen old.spare first
    → first.walk ≡ Some walk
    → HasLostLook setup old walk held new moved → last ≡ record first { walk = Some moved }
    → HasLostNext input setup old held new × IsFinder input setup new.view.low new.view.seen new.spare last
lost-look {input} {setup} {old} {first} {last} {walk} homes its some on same =
    let setting = setting_in setup in
    let scripts = scripts_of input in
    let actor = old.view.low in
    let seeker = caller_in setting scripts old.view.seen actor in
    let at = walking setup.plan seeker.calls seeker.pursuit first.walk walk some its.walk in
    let key : key_of at.call seeker.pursuit ≡ Some on.key = rw (at.its, at.so_far) at on.wanted in
    let still : last ≡ first = rw (same, on.same, ← some) in (
      record {
        visit = look_by actor on.key;
        is_next = next-caller setting scripts old.view.seen actor (omega (arith, its.high, ap length homes))
            ∙ rw (at.calls_are, key);
        lost = on.lost;
      },
      rw (on.lost.turn, still) its,
    )

-- what is known once a caller has looked
pub record Looked (input : Contents) (setup : Setup) (old new : PassData) (finder : Finder)
    (moved : WalkData) : Type 0 where
  pub made : HasMadeNext input setup old new
  pub call : FindCall
  pub later : List FindCall
  pub pursuit : Pursuit
  pub word : ℕ
  pub left : call ∷ later ≡ drop finder.done (finds_of (setting_in setup) (scripts_of input) old.view.low)
  pub its : call_of moved ≡ call
  pub pursuit_is : pursuit_of setup.plan moved ≡ pursuit
  pub goes : IsWalkOver setup.plan moved
  pub is : (answer : Option Found) → answer_of pursuit ≡ answer
      → caller_in (setting_in setup) (scripts_of input) new.view.seen old.view.low
      ≡ with_pursuit (caller_in (setting_in setup) (scripts_of input) old.view.seen old.view.low) call later pursuit
      answer
  pub unanswered : (caller_in (setting_in setup) (scripts_of input) old.view.seen old.view.low).calls ≡ call ∷ later
  pub fewer : looks_left (setting_in setup) call pursuit
      + sum_by (λ (find : FindCall). most_looks (setting_in setup) find.from) later < old.spare

pub looked : CallersKept → CallersRead → LooksFall → {input : Contents} {setup : Setup} {old new : PassData}
    {finder : Finder} {walk moved : WalkData} {ticket : ℕ} → setup.homes ≡ input.homes
    → IsFinder input setup old.view.low old.view.seen old.spare finder → finder.walk ≡ Some walk
    → HasLookedOn setup old walk ticket new moved → Looked input setup old new finder moved
looked kept read fall {input} {setup} {old} {new} {finder} {walk} {ticket} homes its some on =
    let setting = setting_in setup in
    let scripts = scripts_of input in
    let actor = old.view.low in
    let seeker = caller_in setting scripts old.view.seen actor in
    let at = walking setup.plan seeker.calls seeker.pursuit finder.walk walk some its.walk in
    let visited : HasVisited old (Look on.key) ticket new = on.visited in
    let front : before ticket new.view.seen ≡ visited.earlier =
    rw (visited.seen, ← visited.count, take-append_seam) in
    let word = cell setting visited.earlier on.key in
    let pursuit = after_word setting at.call seeker.pursuit word in
    let key : key_of at.call seeker.pursuit ≡ Some on.key = rw (at.its, at.so_far) at on.wanted in
    let reads : caller_in setting scripts new.view.seen actor ≡ after_read setting seeker word =
    rw (
      visited.seen,
      read setting scripts visited.earlier actor on.key,
      caller-in kept setting scripts actor old.view.seen visited.earlier visited.begins visited.visits,
    ) in
    record {
      made = record {
        act = Look on.key;
        ticket = ticket;
        visited = visited;
        is_next = next-caller setting scripts old.view.seen actor (omega (arith, its.high, ap length homes))
            ∙ rw (at.calls_are, key);
      };
      call = at.call;
      later = at.later;
      pursuit = pursuit;
      word = word;
      left = sym at.calls_are ∙ its.left;
      its = on.call ∙ at.its;
      pursuit_is = rw (on.pursuit, front, at.so_far, at.its);
      goes = on.goes;
      is = λ answer ends. reads ∙ read-on setting seeker at.call at.later word answer at.calls_are ends;
      unanswered = at.calls_are;
      fewer = omega (
        arith,
        fall setting at.call seeker.pursuit word on.key key,
        its.room,
        ap (λ cs. looks_after setting cs seeker.pursuit) at.calls_are,
      );
    }

-- the find goes on
pub looked-on : {input : Contents} {setup : Setup} {old new : PassData} {first : Finder} (last : Finder)
    {moved : WalkData} → IsFinder input setup old.view.low old.view.seen old.spare first
    → Looked input setup old new first moved → answer_of (pursuit_of setup.plan moved) ≡ None
    → last.script.items ≡ first.script.items → last.subs ≡ first.subs → last.done ≡ first.done → last.walk ≡ Some moved
    → IsFinder input setup new.view.low new.view.seen new.spare last
looked-on {input} {setup} {old} {new} last its at none script subs done walk =
    let setting = setting_in setup in
    let scripts = scripts_of input in
    let visited = at.made.visited in
    let unanswered : answer_of at.pursuit ≡ None = ap answer_of (sym at.pursuit_is) ∙ none in
    let is = at.is None unanswered in
    let finds : (caller_in setting scripts new.view.seen old.view.low).calls ≡ at.call ∷ at.later =
    ap (λ (s : Seeker). s.calls) is ∙ at.unanswered in
    let pursuit : (caller_in setting scripts new.view.seen old.view.low).pursuit ≡ at.pursuit =
    ap (λ (s : Seeker). s.pursuit) is in
    rw visited.same.actor (record {
      high = its.high;
      low = its.low;
      script = script ∙ its.script;
      subs = subs ∙ its.subs;
      walk = rw (finds, pursuit, walk) (at.its, at.pursuit_is, at.goes, unanswered);
      left = rw (finds, done) at.left;
      room = room-of setting new.spare finds pursuit (omega (arith, at.fewer, visited.spare));
    })

-- the find has its answer, and the next one begins
pub looked-up : {input : Contents} {setup : Setup} {old new : PassData} {first : Finder} (last : Finder)
    {moved : WalkData} {found : Found} → IsFinder input setup old.view.low old.view.seen old.spare first
    → Looked input setup old new first moved → answer_of (pursuit_of setup.plan moved) ≡ Some found
    → last.script.items ≡ first.script.items → last.subs ≡ first.subs → last.done ≡ suc first.done
    → IsWalking setup.plan (drop last.done (map find_of first.script.items)) at_origin last.walk
    → setup.homes ≡ input.homes → IsFinder input setup new.view.low new.view.seen new.spare last
looked-up {input} {setup} {old} {new} {first} last {found} its at some script subs done walk homes =
    let setting = setting_in setup in
    let scripts = scripts_of input in
    let visited = at.made.visited in
    let is = at.is (Some found) (ap answer_of (sym at.pursuit_is) ∙ some) in
    let finds : (caller_in setting scripts new.view.seen old.view.low).calls ≡ at.later =
    ap (λ (s : Seeker). s.calls) is in
    let pursuit : (caller_in setting scripts new.view.seen old.view.low).pursuit ≡ at_origin =
    ap (λ (s : Seeker). s.pursuit) is in
    let more = drop-more first.done (finds_of setting scripts old.view.low) at.call at.later at.left in
    let later : at.later ≡ drop last.done (finds_of setting scripts old.view.low) =
    more.1 ∙ ap (λ n. drop n (finds_of setting scripts old.view.low)) (sym done) in
    let all : map find_of first.script.items ≡ finds_of setting scripts old.view.low =
    ap (map find_of) its.script ∙ sym (finds-are input setting old.view.low homes its.high its.low) in
    rw visited.same.actor (record {
      high = its.high;
      low = its.low;
      script = script ∙ its.script;
      subs = subs ∙ its.subs;
      walk = rw (pursuit, finds, later, ← all) walk;
      left = finds ∙ later;
      room = room-of setting new.spare finds pursuit (omega
          (arith, at.fewer, visited.spare, looks-origin setting at.later));
    })
