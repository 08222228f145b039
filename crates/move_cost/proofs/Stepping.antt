-- A subscriber's next step: its writes fit, and the line grows by what it costs.
use Rattle.std.proofs.Common.{◌≡◌, length-append, ℕ, suc, ◌+◌, ◌*◌, ◌^◌, ◌<◌, ◌≤◌, List, [], ◌∷◌, ◌++◌, length, map, drop, get_or, refl, sym, ap, ◌∙◌, subst, arith, Vec, Global}
use Rattle.std.specs.Prelude.{All, None, sum_by}
use Rattle.std.proofs.lemmas.Bool.{lt-ltb}
use Rattle.std.proofs.lemmas.List.{append-nil, get_or-map, length-map, length_push}
use Rattle.std.proofs.lemmas.List.Sums.{count_by-le-length, fold-append, sum_by_push}
use Rattle.directory.specs.Amid.{course_of}
use Rattle.directory.specs.Settings.{Setting, start}
use Rattle.directory.specs.Courses.{Course, Move, Step, address_node, after_step, course_at, last_stop, move_to, next_move, switch_off, switch_on}
use Rattle.directory.specs.Orders.{steps_of}
use Rattle.directory.specs.Statements.{MovesAreShort}
use Rattle.directory.specs.StepLaws.{last_stop-moved, visits-more}
use Rattle.directory.specs.Writes.{Write, step_writes, visit_of, visits}
use Rattle.distances.specs.Table.{DistanceTable}
use Rattle.net_reader.specs.declared.input.Input.{Input}
use Rattle.net_reader.specs.Input.{Contents}
use Rattle.net_reader.specs.Seen.{seen_input}
use Rattle.net_reader.specs.Valid.{IsValid}
use Rattle.net_reader.specs.declared.said.Call.{Call}
use Rattle.net_reader.specs.declared.said.Call.TheVariants as calls
use Rattle.region_plan.specs.Kept.{IsKept}
use Rattle.region_plan.specs.Matched.{IsMatched}
use Rattle.region_plan.specs.Plan.{PlanData, distance, levels_of, nodes_of}
use Rattle.region_plan.specs.Settings.{setting_of}
use Rattle.handset.specs.Condition.{GoesWith, HandsetData, begun_at}
use Rattle.handset.specs.StepWrites.{due}
use Rattle.handset.specs.StageLaws.{IsRestAfter, rest-after, stage-rests}
use Rattle.handset.specs.Stands.{StandsAt, StandsForSteps}
use Rattle.handset.specs.declared.stage.Stage.TheVariants.{Resting}
use Rattle.scripts.specs.Laws.{ScriptsAreValid}
use Rattle.scripts.specs.Scripts.{scripts_of, step_of}
use Rattle.scripts.specs.ScriptLaws.{IsStep, script-few, steps-are}
use Rattle.move_cost.specs.declared.line.CostLine.{CostLine}
use Rattle.move_cost.specs.Costs.{cost_line, is_purge}
use Rattle.move_cost.specs.Counting.{HasRoom, IsCounted, IsFit, IsLeft, MayBegin, first_steps, most_weight, node_after, with_call, with_writes}
use Rattle.move_cost.specs.Plans.{GoTogether}
use Rattle.move_cost.proofs.Fitting.{fit-step}
use Rattle.move_cost.proofs.Paying.{weights-more}
use Rattle.move_cost.proofs.Purging.{purges-more}
use Rattle.move_cost.proofs.Calls.{IsNextCall, may-begin, next-call}

-- a list behind another
drop-front : {A : Type 0} (xs ys : List A) → drop (length xs) (xs ++ ys) ≡ ys
drop-front [] ys = refl
drop-front (x ∷ xs) ys = drop-front xs ys

-- two lines that say the same are the same
line-same : (sub : ℕ) {moves moved written purged other_moves other_moved other_written other_purged : ℕ}
    → moves ≡ other_moves → moved ≡ other_moved → written ≡ other_written → purged ≡ other_purged
    → ◌≡◌ {A = CostLine}
    (record { sub = sub; moves = moves; moved = moved; written = written; purged = purged })
    (record { sub = sub; moves = other_moves; moved = other_moved; written = other_written; purged = other_purged })
line-same sub {moves} {moved} {written} {purged} {other_moves} {other_moved} {other_written} a b c d =
    grind arith

-- the distances of a plan's setting
its-distance : (plan : PlanData) (starts : List ℕ) (u v : ℕ) → u < nodes_of plan → v < nodes_of plan
    → (setting_of plan starts).distance u v ≡ distance plan u v
its-distance plan starts u v h g = grind (arith, lt-ltb)

-- the line of one step more
module _ (plan : PlanData) (starts : List ℕ) (sub : ℕ) (handset : HandsetData) (steps : List Step) (made : ℕ)
    (at : IsRestAfter (setting_of plan starts) sub handset steps made)
    (goes : GoesWith plan handset) where
  abbrev setting : Setting
  setting = setting_of plan starts

  abbrev course : Course
  course = course_of setting sub steps

  abbrev so_far : CostLine
  so_far = cost_line setting sub steps

  told : (step : Step) (node moves moved : ℕ) → last_stop (after_step setting course step) ≡ node
      → length (after_step setting course step).moves ≡ moves
      → sum_by (λ (move : Move). move.weight) (after_step setting course step).moves ≡ moved
      → with_writes setting node (record so_far { moves = moves; moved = moved }) (step_writes setting course step)
      ≡ cost_line setting sub (steps ++ step ∷ [])
  told step node moves moved to count way =
      let next : course_of setting sub (steps ++ step ∷ []) ≡ after_step setting course step =
      fold-append (after_step setting) (course_at (start setting sub)) steps (step ∷ []) in
      line-same sub (sym (ap (λ (c : Course). length c.moves) next ∙ count))
      (sym (ap (λ (c : Course). sum_by (λ (move : Move). move.weight) c.moves) next ∙ way))
      (grind (arith, weights-more))
      (sym (purges-more setting (course_at (start setting sub)) steps step))

  pub call-told : (call : Call) → IsStep call → MayBegin plan handset call
      → with_writes setting (node_after handset call) (with_call plan handset so_far call)
      (step_writes setting course (step_of call))
      ≡ cost_line setting sub (steps ++ step_of call ∷ [])
  call-told (calls.Move to) its may =
      let weight : setting.distance (last_stop course) to ≡ distance plan handset.place to =
      ap (λ n. setting.distance n to) (sym at.place) ∙ its-distance plan starts handset.place to goes.place may.0 in
      told (move_to to) to (suc so_far.moves) (so_far.moved + distance plan handset.place to)
      (last_stop-moved setting course to)
      (length_push course.moves (next_move setting course to) ∙ omega arith)
      (sum_by_push (λ (m : Move). m.weight) course.moves (next_move setting course to)
      ∙ ap (λ n. so_far.moved + n) weight)
  call-told (calls.Find from found) its may = absurd its
  call-told calls.Off its may = told switch_off handset.place so_far.moves so_far.moved (sym at.place) refl refl
  call-told calls.On its may = told switch_on handset.place so_far.moves so_far.moved (sym at.place) refl refl

-- no step has more writes
short-step : MovesAreShort → {plan : PlanData} (starts : List ℕ) (course : Course) (step : Step) → IsKept plan
    → length (step_writes (setting_of plan starts) course step) ≤ 2 ^ 11
short-step short {plan} starts course (move_to node) kept =
    omega (arith, short (setting_of plan starts) course node, kept.some, kept.few, kept.metric.few)
short-step short starts course switch_off kept = omega arith
short-step short starts course switch_on kept = omega arith

-- a script is short
few-steps : {input : Contents} (sub : ℕ) → IsValid input → sub < length input.homes
    → length (steps_of (scripts_of input) sub) ≤ 16384
few-steps {input} sub valid low =
    grind (arith, steps-are, length-map, script-few)

-- what a call adds to a line is small
call-small : (plan : PlanData) (handset : HandsetData) (line : CostLine) (call : Call)
    → ((with_call plan handset line call).moves ≤ suc line.moves)
    × ((with_call plan handset line call).written ≡ line.written)
    × ((with_call plan handset line call).purged ≡ line.purged)
call-small plan handset line (calls.Move to) = (omega arith, refl, refl)
call-small plan handset line (calls.Find from sub) = (omega arith, refl, refl)
call-small plan handset line calls.Off = (omega arith, refl, refl)
call-small plan handset line calls.On = (omega arith, refl, refl)

-- what is known where a subscriber makes its next step
pub record IsReady (input : Contents) (plan : PlanData) (sub place : ℕ) (handset : HandsetData) (line : CostLine)
    (call : Call) : Type 0 where
  pub may : MayBegin plan handset call
  pub node : node_after handset call < nodes_of plan
  pub more : first_steps input sub (suc place) ≡ first_steps input sub place ++ step_of call ∷ []
  pub short : place < 16384
  pub count : length (step_writes (setting_of plan input.homes)
      (course_of (setting_of plan input.homes) sub (first_steps input sub place)) (step_of call)) ≤ 2 ^ 11
  pub fit : All (IsFit plan) (step_writes (setting_of plan input.homes)
      (course_of (setting_of plan input.homes) sub (first_steps input sub place)) (step_of call))
  pub told : with_writes (setting_of plan input.homes) (node_after handset call)
      (with_call plan handset line call) (step_writes (setting_of plan input.homes)
      (course_of (setting_of plan input.homes) sub (first_steps input sub place)) (step_of call))
      ≡ cost_line (setting_of plan input.homes) sub (first_steps input sub (suc place))

pub ready : ScriptsAreValid → MovesAreShort → {input : Contents} {plan : PlanData} {distances : DistanceTable}
    {sub place : ℕ} {handset : HandsetData} {line : CostLine} {call : Call} → IsKept plan → IsMatched plan
    → GoTogether input plan distances → sub < length input.homes → place < length (steps_of (scripts_of input) sub)
    → call ≡ get_or (get_or input.scripts sub []) place call → IsCounted input plan sub place handset line
    → IsReady input plan sub place handset line call
ready scripts moves {input} {plan} {sub} {place} {handset} {call} kept matched together low short same counted =
    let setting : Setting = setting_of plan input.homes in
    let steps : List Step = first_steps input sub place in
    let course : Course = course_of setting sub steps in
    let made : ℕ = length (visits setting sub steps) in
    let its : IsNextCall input plan sub place call =
    next-call scripts sub place together low short same in
    let resting : handset.stage ≡ Resting = stage-rests (setting_of plan []) handset counted.rests in
    let at : IsRestAfter setting sub handset steps made =
    subst (λ s. IsRestAfter setting s handset steps made) counted.its
    (rest-after setting handset steps made counted.stands resting) in
    let stands : StandsAt setting handset Resting steps made =
    subst (λ stage. StandsAt setting handset stage steps made) resting counted.stands in
    let over : course_of setting handset.sub stands.over ≡ course =
    ap (course_of setting handset.sub) (sym (append-nil stands.over) ∙ sym stands.begun)
    ∙ ap (λ s. course_of setting s steps) counted.its in
    let here : last_stop course < nodes_of plan = subst (λ n. n < nodes_of plan) at.place counted.goes.place in
    let placed : (i : ℕ) → i < levels_of plan → address_node course i < nodes_of plan =
    λ i below. subst (λ n. n < nodes_of plan)
    (stands.addresses i (omega (arith, below, kept.some)) ∙ ap (λ c. address_node c i) over)
    (counted.goes.inside i below) in
    let few : length course.moves < 2 ^ 32 =
    omega (
      arith,
      at.number,
      counted.goes.numbered,
      counted.goes.counted,
      ap (λ stage. begun_at stage handset.number) resting,
    ) in
    let may : MayBegin plan handset call =
    may-begin plan input.homes call at its.step its.may in
    record {
      may = may;
      node = goes-inside call may;
      more = its.more;
      short = omega (arith, short, few-steps sub together.valid low);
      count = short-step moves input.homes course (step_of call) kept;
      fit = fit-step plan input.homes course matched here placed few (step_of call) its.may;
      told = subst (λ l. with_writes setting (node_after handset call) (with_call plan handset l call)
          (step_writes setting course (step_of call)) ≡ cost_line setting sub (first_steps input sub (suc place)))
          (sym counted.told)
          (call-told plan input.homes sub handset steps made at counted.goes call its.step may
          ∙ ap (cost_line setting sub) (sym its.more));
    }
  where
    goes-inside : (c : Call) → MayBegin plan handset c → node_after handset c < nodes_of plan
    goes-inside (calls.Move to) may = may.0
    goes-inside (calls.Find from found) may = absurd may
    goes-inside calls.Off may = counted.goes.place
    goes-inside calls.On may = counted.goes.place

-- so it is known of the call that the code reads
pub ready-here : ScriptsAreValid → MovesAreShort → (input : Input) {plan : PlanData} {distances : DistanceTable}
    {sub place : ℕ} {handset : HandsetData} {line : CostLine} {held : Vec Call Global} {call : Call} → IsKept plan
    → IsMatched plan → GoTogether (seen_input input) plan distances → sub < length input.homes.items
    → place < length (steps_of (scripts_of (seen_input input)) sub) → held ≡ get_or input.scripts.items sub held
    → call ≡ get_or held.items place call → IsCounted (seen_input input) plan sub place handset line
    → IsReady (seen_input input) plan sub place handset line call
ready-here scripts moves input {sub} {place} {held} {call} kept matched together low short reads
    same counted =
    let known : sub < length input.scripts.items =
    omega (
      arith,
      low,
      together.valid.scripts,
      length-map input.scripts.items (λ (s : Vec Call Global). s.items),
    ) in
    let script : held.items ≡ get_or (seen_input input).scripts sub [] =
    ap (λ (s : Vec Call Global). s.items) reads
    ∙ sym (get_or-map (λ (s : Vec Call Global). s.items) input.scripts.items sub held [] known) in
    ready scripts moves kept matched together low short (same ∙ ap (λ s. get_or s place call) script) counted

-- what is left of the step that was begun
pub left-of-step : {input : Contents} {plan : PlanData} {sub place : ℕ} {handset : HandsetData} (new : HandsetData)
    {line : CostLine} {call : Call} → IsCounted input plan sub place handset line
    → IsReady input plan sub place handset line call → new.sub ≡ handset.sub
    → StandsForSteps (setting_of plan input.homes) new (first_steps input sub place ++ step_of call ∷ [])
    (length (visits (setting_of plan input.homes) sub (first_steps input sub place)))
    → IsLeft plan input.homes new (first_steps input sub place ++ step_of call ∷ [])
    (length (visits (setting_of plan input.homes) sub (first_steps input sub place)))
    (step_writes (setting_of plan input.homes) (course_of (setting_of plan input.homes) sub
    (first_steps input sub place)) (step_of call))
left-of-step {input} {plan} {sub} {place} new {call} counted is same stands =
    let setting : Setting = setting_of plan input.homes in
    let steps : List Step = first_steps input sub place in
    let later : List Write = step_writes setting (course_of setting sub steps) (step_of call) in
    record {
      stands = stands;
      left = subst (λ s. drop (length (visits setting sub steps)) (visits setting s (steps ++ step_of call ∷ []))
          ≡ map (visit_of s) later) (sym (same ∙ counted.its))
          (ap (drop (length (visits setting sub steps))) (visits-more setting sub steps (step_of call))
          ∙ drop-front (visits setting sub steps) (map (visit_of sub) later));
      fit = is.fit;
    }

-- there is room for it
pub room-for-step : {input : Contents} {plan : PlanData} {sub place : ℕ} {handset : HandsetData} (new : HandsetData)
    {line after : CostLine} {call : Call} → IsCounted input plan sub place handset line
    → IsReady input plan sub place handset line call → after ≡ with_call plan handset line call → new.sub ≡ handset.sub
    → StandsForSteps (setting_of plan input.homes) new (first_steps input sub place ++ step_of call ∷ [])
    (length (visits (setting_of plan input.homes) sub (first_steps input sub place))) → HasRoom plan new after
room-for-step {input} {plan} {sub} {place} {handset} new {line} {call} counted is grown same stands =
    let small = call-small plan handset line call in
    record {
      starts = input.homes;
      steps = first_steps input sub place ++ step_of call ∷ [];
      made = length (visits (setting_of plan input.homes) sub (first_steps input sub place));
      later = step_writes (setting_of plan input.homes)
          (course_of (setting_of plan input.homes) sub (first_steps input sub place)) (step_of call);
      left = left-of-step new counted is same stands;
      written = omega (
        arith,
        ap (λ (l : CostLine). l.written) grown,
        small.1,
        counted.small.written,
        is.short,
        is.count,
      );
      purged = omega (
        arith,
        ap (λ (l : CostLine). l.purged) grown,
        small.2,
        counted.small.purged,
        is.short,
        is.count,
      );
    }

-- and then one step more is counted
pub counted-more : {input : Contents} {plan : PlanData} {sub place : ℕ} {handset : HandsetData} (begun : HandsetData)
    {new : HandsetData} {line after end : CostLine} {call : Call} {node : ℕ}
    → IsCounted input plan sub place handset line → IsReady input plan sub place handset line call
    → node ≡ node_after handset call → after ≡ with_call plan handset line call → after.moved ≤ line.moved + 2 ^ 30
    → begun.sub ≡ handset.sub → new.sub ≡ begun.sub → GoesWith plan new → due (setting_of plan []) new ≡ None
    → StandsForSteps (setting_of plan input.homes) new (first_steps input sub place ++ step_of call ∷ [])
    (length (visits (setting_of plan input.homes) sub (first_steps input sub place)) + length
    (step_writes (setting_of plan input.homes) (course_of (setting_of plan input.homes) sub
    (first_steps input sub place)) (step_of call))) → end ≡ with_writes (setting_of plan input.homes) node after
    (step_writes (setting_of plan input.homes) (course_of (setting_of plan input.homes) sub
    (first_steps input sub place)) (step_of call)) → end.written ≤ after.written + length
    (step_writes (setting_of plan input.homes) (course_of (setting_of plan input.homes) sub
    (first_steps input sub place)) (step_of call)) * most_weight → IsCounted input plan sub (place + 1) new end
counted-more {input} {plan} {sub} {place} {handset} begun {new} {line} {after} {end} {call} counted is to grown far same
    still goes
    rests stands told light =
    let setting : Setting = setting_of plan input.homes in
    let steps : List Step = first_steps input sub place in
    let later : List Write = step_writes setting (course_of setting sub steps) (step_of call) in
    let one : place + 1 ≡ suc place = omega arith in
    let made : length (visits setting sub steps) + length later
    ≡ length (visits setting sub (first_steps input sub (suc place))) =
    omega (
      arith,
      ap (λ ss. length (visits setting sub ss)) is.more,
      ap length (visits-more setting sub steps (step_of call)),
      length-append (visits setting sub steps) (map (visit_of sub) later),
      length-map later (visit_of sub),
    ) in
    let small = call-small plan handset line call in
    subst (λ n. IsCounted input plan sub n new end) (sym one) (record {
      goes = goes;
      its = still ∙ (same ∙ counted.its);
      rests = rests;
      stands = subst (λ ss. StandsForSteps setting new ss (length
          (visits setting sub (first_steps input sub (suc place)))))
          (sym is.more) (subst (StandsForSteps setting new (steps ++ step_of call ∷ [])) made stands);
      told = told
          ∙ (ap (λ n. with_writes setting n after later) to
          ∙ (ap (λ l. with_writes setting (node_after handset call) l later) grown ∙ is.told));
      small = record {
        moves = omega (
          arith,
          ap (λ (l : CostLine). l.moves) told,
          ap (λ (l : CostLine). l.moves) grown,
          small.0,
          counted.small.moves,
        );
        moved = omega (arith, ap (λ (l : CostLine). l.moved) told, far, counted.small.moved);
        written = omega (
          arith,
          light,
          ap (λ (l : CostLine). l.written) grown,
          small.1,
          counted.small.written,
          is.count,
        );
        purged = omega (
          arith,
          ap (λ (l : CostLine). l.purged) told,
          ap (λ (l : CostLine). l.purged) grown,
          small.2,
          counted.small.purged,
          count_by-le-length is_purge later,
          is.count,
        );
      };
    })
