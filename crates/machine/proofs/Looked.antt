-- A caller's look: which cell it is at, which nodes its word names, and how far the caller is after it.
use Rattle.std.proofs.Common.{◌≡◌, ℕ, ◌-◌, ◌^◌, ◌<◌, ◌≤◌, true, false, List, [], ◌∷◌, length, map, drop, get_or, refl, sym, ap, ◌∙◌, subst, arith, Vec, Global, suc, ◌++◌, Option}
use Rattle.std.specs.Prelude.{Some, vec_capacity, vec_len, None, slice_index, nat_lt, option_map, unwrap_or, if◌then◌else◌}
use Rattle.std.proofs.lemmas.List.{get_or-map, length-map, length-drop, append-nil, length_push, get_or_push}
use Rattle.entry_word.specs.declared.visit.Key.{Key}
use Rattle.directory.specs.Histories.{History, cell, tickets}
use Rattle.directory.specs.Finds.{FindCall, key_of, Pursuit, after_word, answer_of, at_origin}
use Rattle.directory.specs.Orders.{AreValid, Caller as Seeker, IsFindCall, caller_in, finds_of, next_key, Scripts, next, with_pursuit}
use Rattle.directory.specs.Statements.{PlayedIsLegal, CallerLinesGrow, CallersCount, CallersRead, TicketsGrow}
use Rattle.trail_laws.specs.Trail.{EntriesTell, MarksTell}
use Rattle.region_plan.specs.Matched.{IsMatched}
use Rattle.region_plan.specs.Plan.{PlanData, nodes_of}
use Rattle.region_plan.specs.Cells.{IsCell}
use Rattle.walk.specs.Walks.{IsWalkOver, IsWordBelow, WalkData, call_of, pursuit_of}
use Rattle.walk.specs.LookLaws.{cell-wanted, word-wanted}
use Rattle.distances.specs.Table.{DistanceTable}
use Rattle.net_reader.specs.declared.said.Call.{Call}
use Rattle.net_reader.specs.Input.{Contents}
use Rattle.visit_log.specs.Cells.{CellData}
use Rattle.machine.specs.declared.caller.Caller.{Caller}
use Rattle.scripts.specs.Scripts.{find_of, scripts_of}
use Rattle.machine.specs.Stands.{BelongTogether, Sees, over, setting_over, IsWalking}
use Rattle.machine.specs.Callers.{HasLooked, IsCaller, first_ticket}
use Rattle.machine.specs.WalkingLaws.{Walks, drop-more, walking, read-on}
use Rattle.scripts.specs.Laws.{ScriptsAreValid}
use Rattle.scripts.specs.ScriptLaws.{finds-are}
use Rattle.std.proofs.lemmas.Bool.{eq-eqb}
use Rattle.std.proofs.Math.ListN.{get_or-append}
use Rattle.directory.specs.Settings.{Setting}
use Rattle.directory.specs.Looks.{look_by}
use Rattle.directory.specs.Outcomes.{caller_lines, found_line}
use Rattle.directory.specs.declared.answers.Done.{Done}
use Rattle.directory.specs.declared.answers.Found.{Found}
use Rattle.region_plan.specs.Settings.{setting_of}
use Rattle.directory.specs.HistoryLaws.{next-caller}
use Rattle.machine.specs.declared.turn.Turn.TheVariants.{Visited}

pub key-wanted : {plan : PlanData} (seeker : Seeker) {walk : WalkData} → Walks plan seeker.calls seeker.pursuit walk
    → key_of (call_of walk) (pursuit_of plan walk) ≡ next_key seeker
key-wanted seeker {walk} at = grind arith

-- the find that a caller is at is one of its script
pub call-known : (input : Contents) (plan : PlanData) (actor n : ℕ) {call : FindCall} {later : List FindCall}
    → AreValid (setting_over input plan) (scripts_of input) → length input.homes ≤ actor → actor < length input.scripts
    → call ∷ later ≡ drop n (finds_of (setting_over input plan) (scripts_of input) actor)
    → IsFindCall (setting_over input plan) call
call-known input plan actor n {call} {later} valid high low left =
    let at = drop-more n (finds_of (setting_over input plan) (scripts_of input) actor) call later left in
    let short : actor - length input.homes < length (scripts_of input).finds = grind (arith, length-map, length-drop) in
    subst (IsFindCall (setting_over input plan)) (at.2 call)
    (valid.finds (actor - length input.homes) [] short n call at.0)

-- a caller that has a walk
module _ {input : Contents} {plan : PlanData} {history : History} {actor : ℕ} {caller : Caller} {walk : WalkData}
    (its : IsCaller input plan history actor caller) (held : caller.walk ≡ Some walk) where
  its-walk : Walks plan (caller_in (setting_over input plan) (scripts_of input) history actor).calls
      (caller_in (setting_over input plan) (scripts_of input) history actor).pursuit walk
  its-walk = grind (arith, walking)

  -- the walk goes with the plan
  pub walks-over : IsWalkOver plan walk
  walks-over = its-walk.goes

  -- the subscriber that it looks for
  pub sub-known : ScriptsAreValid → {distances : DistanceTable} → BelongTogether input plan distances
      → length input.homes ≤ actor → actor < length input.scripts → walk.sub < length input.homes
  sub-known scripts {distances} together high low =
      subst (λ (c : FindCall). c.sub < length input.homes) (sym its-walk.its)
      (call-known input plan actor (length caller.lines.items)
      (scripts input (setting_over input plan) together.valid (over input plan distances together)) high low
      (sym its-walk.calls_are ∙ its.left)).known

  -- it has lines for fewer finds than it makes
  finds-left : length caller.lines.items < length (finds_of (setting_over input plan) (scripts_of input) actor)
  finds-left = grind (arith, drop-more)

  -- so there is room for one more
  pub room-left : vec_len caller.lines < vec_capacity caller.lines
  room-left = omega (arith, finds-left, its.room, caller.lines.ok.0)

  -- and for fewer than its script has
  pub place-low : length input.homes ≤ actor → actor < length input.scripts
      → length caller.lines.items < length (get_or input.scripts actor [])
  place-low high low =
      omega (
        arith,
        finds-left,
        ap length (finds-are input (setting_over input plan) actor refl high low),
        length-map (get_or input.scripts actor []) find_of,
      )

-- what a caller's look leans on
pub record Wanted (input : Contents) (plan : PlanData) (cells : CellData) (history : History) (walk : WalkData)
    (key : Key) : Type 0 where
  pub is_cell : IsCell plan cells.subs key
  pub is_below : IsWordBelow (nodes_of plan) walk.progress (cell (setting_over input plan) history key)

pub wanted : MarksTell → EntriesTell → PlayedIsLegal → ScriptsAreValid
    → {input : Contents} {plan : PlanData} {distances : DistanceTable} {cells : CellData} {history : History}
    {actor : ℕ} {caller : Caller} {walk : WalkData} {key : Key} → BelongTogether input plan distances → IsMatched plan
    → length input.homes ≤ actor → actor < length input.scripts → Sees input plan cells history
    → IsCaller input plan history actor caller → caller.walk ≡ Some walk
    → key_of (call_of walk) (pursuit_of plan walk) ≡ Some key → Wanted input plan cells history walk key
wanted marks entries legal scripts {input} {plan} {distances} {cells} {history} {walk} {key} together matched high low
    sees its held wants =
    let known = sub-known its held scripts together high low in
    let small : nodes_of plan ≤ 2 ^ 16 = omega (arith, matched.metric.few) in
    record {
      is_cell = cell-wanted plan walk cells.subs key matched (walks-over its held)
          (omega (arith, known, sees.hold.subs)) wants;
      is_below = word-wanted marks entries plan input.homes history walk key matched small
          (legal (setting_over input plan) (scripts_of input) history walk.sub small
          (scripts input (setting_over input plan) together.valid (over input plan distances together)) known
          sees.played) (walks-over its held) wants;
    }

pub scripts-low : (scripts : List (Vec Call Global)) (actor : ℕ) → actor < length scripts
    → actor < length (map (λ (s : Vec Call Global). s.items) scripts)
scripts-low scripts actor low = omega (arith, low, length-map scripts (λ (s : Vec Call Global). s.items))

-- the call at that place is the find that it is at
pub call-at : (input : Contents) (plan : PlanData) (actor n : ℕ) {script : List Call} {call : FindCall}
    {later : List FindCall} (default : Call) → length input.homes ≤ actor → actor < length input.scripts
    → script ≡ get_or input.scripts actor [] → n < length script
    → call ∷ later ≡ drop n (finds_of (setting_over input plan) (scripts_of input) actor)
    → find_of (get_or script n default) ≡ call
call-at input plan actor n {script} {call} {later} default high low same short left =
    let more = drop-more n (finds_of (setting_over input plan) (scripts_of input) actor) call later left in
    sym (get_or-map find_of script n default call short)
    ∙ rw (same, ← finds-are input (setting_over input plan) actor refl high low) (more.2 call)

-- the ticket of the first look
pub first-is : (first : ℕ) {next : ℕ} (ticket : ℕ) (seen : List ℕ) {kept : Option ℕ}
    → kept ≡ (if nat_lt first next then Some (slice_index seen first) else None) → length seen ≡ next → first ≤ next
    → unwrap_or kept ticket ≡ slice_index (seen ++ ticket ∷ []) first
first-is first {next} ticket seen same count low = grind (arith, get_or-append, get_or_push)

-- a caller by its parts
pub by-parts : (input : Contents) (plan : PlanData) (history : History) (actor : ℕ) {seeker : Seeker} {seen : List ℕ}
    (caller : Caller) → caller_in (setting_over input plan) (scripts_of input) history actor ≡ seeker
    → tickets actor history ≡ seen → IsWalking plan seeker.calls seeker.pursuit caller.walk
    → caller.first ≡ first_ticket seeker seen → caller.lines.items ≡ caller_lines (setting_over input plan)
    (scripts_of input) history actor → seeker.calls ≡ drop (length caller.lines.items)
    (finds_of (setting_over input plan) (scripts_of input) actor)
    → vec_capacity caller.lines ≡ length (finds_of (setting_over input plan) (scripts_of input) actor)
    → IsCaller input plan history actor caller
by-parts input plan history actor {seen} caller e t walks first lines left room = grind arith

-- what is known as a caller looks
pub record Looks (input : Contents) (plan : PlanData) (history : History) (actor : ℕ)
    (caller : Caller) (key : Key) (next_walk : WalkData) : Type 0 where
  pub call : FindCall
  pub later : List FindCall
  pub calls_are : (caller_in (setting_over input plan) (scripts_of input) history actor).calls ≡ call ∷ later
  pub turn : next (setting_over input plan) (scripts_of input) history actor ≡ Some (look_by actor key)
  pub pursuit : pursuit_of plan next_walk ≡ after_word (setting_over input plan) call
      (caller_in (setting_over input plan) (scripts_of input) history actor).pursuit
      (cell (setting_over input plan) history key)
  pub its : call_of next_walk ≡ call
  pub seen : tickets actor (history ++ look_by actor key ∷ []) ≡ tickets actor history ++ length history ∷ []

pub looks : TicketsGrow → {input : Contents} {plan : PlanData} {history : History} {actor : ℕ} {caller : Caller}
    {walk : WalkData} (next_walk : WalkData) {key : Key} {word : ℕ} → length input.homes ≤ actor
    → IsCaller input plan history actor caller → caller.walk ≡ Some walk
    → key_of (call_of walk) (pursuit_of plan walk) ≡ Some key → word ≡ cell (setting_over input plan) history key
    → call_of next_walk ≡ call_of walk → pursuit_of plan next_walk ≡ after_word (setting_of plan []) (call_of walk)
    (pursuit_of plan walk) word → Looks input plan history actor caller key next_walk
looks grow {input} {plan} {history} {actor} {caller} {walk} next_walk {key} high its held wants reads same saw =
    let seeker : Seeker = caller_in (setting_over input plan) (scripts_of input) history actor in
    let at = its-walk its held in
    record {
      call = at.call;
      later = at.later;
      calls_are = at.calls_are;
      turn = next-caller (setting_over input plan) (scripts_of input) history actor high
          ∙ ap (option_map (look_by actor)) (sym (key-wanted seeker at) ∙ wants);
      pursuit = rw (saw, reads, at.so_far, at.its);
      its = same ∙ at.its;
      seen = rw (grow actor history (look_by actor key), eq-eqb actor actor refl);
    }

-- the find goes on
pub looked-on : CallersRead → CallerLinesGrow → CallersCount → {input : Contents} {plan : PlanData} {cells : CellData}
    {history : History} {actor ticket : ℕ} {old new : Caller} {key : Key} {walk : WalkData} → length input.homes ≤ actor
    → Sees input plan cells history → length history ≡ ticket → IsCaller input plan history actor old
    → Looks input plan history actor old key walk → IsWalkOver plan walk → None ≡ answer_of (pursuit_of plan walk)
    → new ≡ record old { walk = Some walk; first = Some (unwrap_or old.first ticket) }
    → HasLooked input plan history actor old new Visited
looked-on read grow count {input} {plan} {history} {actor} {ticket} {old} {key} {walk} high sees place its at goes none
    same =
    let setting : Setting = setting_over input plan in
    let scripts : Scripts = scripts_of input in
    let seeker : Seeker = caller_in setting scripts history actor in
    let pursuit : Pursuit = after_word setting at.call seeker.pursuit (cell setting history key) in
    let counted = count setting scripts history actor high sees.played in
    let unanswered : answer_of pursuit ≡ None = ap answer_of (sym at.pursuit) ∙ sym none in
    let after : caller_in setting scripts (history ++ look_by actor key ∷ []) actor
    ≡ with_pursuit seeker at.call at.later pursuit None =
    read setting scripts history actor key
    ∙ read-on setting seeker at.call at.later (cell setting history key) None at.calls_are unanswered in
    let first : unwrap_or old.first ticket ≡ slice_index (tickets actor history ++ ticket ∷ []) seeker.first =
    first-is seeker.first ticket (tickets actor history) its.first (sym counted.0) counted.1 in
    let seen : tickets actor (history ++ look_by actor key ∷ []) ≡ tickets actor history ++ ticket ∷ [] =
    rw (at.seen, place) in
    let low : nat_lt seeker.first (suc seeker.next) ≡ true = grind (arith, counted.1) in (
      key,
      at.turn,
      rw same (by-parts input plan (history ++ look_by actor key ∷ []) actor _ after seen
          (rw at.calls_are (at.its, at.pursuit, goes, unanswered)) (rw (low, first)) (rw (
            grow setting scripts history actor key at.call at.later high sees.played at.calls_are,
            unanswered,
            append-nil,
          ) its.lines) its.left its.room),
    )

-- the find has its answer
pub looked-up : CallersRead → CallerLinesGrow → CallersCount → {input : Contents} {plan : PlanData} {cells : CellData}
    {history : History} {actor ticket : ℕ} {old : Caller} (new : Caller) {key : Key} {walk : WalkData} {found : Found}
    {line : Done} {left : ℕ} → length input.homes ≤ actor → Sees input plan cells history → length history ≡ ticket
    → IsCaller input plan history actor old → Looks input plan history actor old key walk
    → Some found ≡ answer_of (pursuit_of plan walk) → ((call : FindCall) (later : List FindCall)
    → call ∷ later ≡ drop (length old.lines.items) (finds_of (setting_over input plan) (scripts_of input) actor)
    → line ≡ found_line actor call found (unwrap_or old.first ticket) ticket)
    → new.lines.items ≡ old.lines.items ++ line ∷ [] → left ≡ suc (length old.lines.items)
    → vec_capacity new.lines ≡ vec_capacity old.lines → new.first ≡ None
    → IsWalking plan (drop left (finds_of (setting_over input plan) (scripts_of input) actor)) at_origin new.walk
    → HasLooked input plan history actor old new Visited
looked-up read grow count {input} {plan} {history} {actor} {ticket} {old} new {key} {found} {line} high sees place its
    at
    answered line_is lines left_is room first_is walks =
    let setting : Setting = setting_over input plan in
    let scripts : Scripts = scripts_of input in
    let seeker : Seeker = caller_in setting scripts history actor in
    let pursuit : Pursuit = after_word setting at.call seeker.pursuit (cell setting history key) in
    let counted = count setting scripts history actor high sees.played in
    let ends : answer_of pursuit ≡ Some found = ap answer_of (sym at.pursuit) ∙ sym answered in
    let after : caller_in setting scripts (history ++ look_by actor key ∷ []) actor
    ≡ with_pursuit seeker at.call at.later pursuit (Some found) =
    read setting scripts history actor key
    ∙ read-on setting seeker at.call at.later (cell setting history key) (Some found) at.calls_are ends in
    let first : unwrap_or old.first ticket ≡ slice_index (tickets actor history ++ ticket ∷ []) seeker.first =
    first-is seeker.first ticket (tickets actor history) its.first (sym counted.0) counted.1 in
    let seen : tickets actor (history ++ look_by actor key ∷ []) ≡ tickets actor history ++ ticket ∷ [] =
    rw (at.seen, place) in
    let late : nat_lt (suc seeker.next) (suc seeker.next) ≡ false = grind arith in
    let rest : at.call ∷ at.later ≡ drop (length old.lines.items) (finds_of setting scripts actor) =
    sym at.calls_are ∙ its.left in
    let more = drop-more (length old.lines.items) (finds_of setting scripts actor) at.call at.later rest in
    let longer : length new.lines.items ≡ suc (length old.lines.items) = grind (arith, length_push) in
    let told : line ≡ found_line actor at.call found
    (slice_index (tickets actor history ++ length history ∷ []) seeker.first) (length history) =
    rw (line_is at.call at.later rest, first, place) in (
      key,
      at.turn,
      by-parts input plan (history ++ look_by actor key ∷ []) actor new after seen (rw (more.1, ← left_is) walks)
          (rw (late, first_is)) (rw (
            grow setting scripts history actor key at.call at.later high sees.played at.calls_are,
            ends,
            lines,
            its.lines,
            told,
          )) (rw longer more.1) (room ∙ its.room),
    )
