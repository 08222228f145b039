-- What is known of a subscriber after a visit of its own: whose turn it was, which step the visit belongs to, whether
-- it commits a move, and what it adds to the lines of the steps.
use Rattle.std.proofs.Common.{◌≡◌, ℕ, zero, suc, ◌-◌, ◌<◌, ◌≤◌, ◌^◌, Bool, true, false, List, [], ◌∷◌, ◌++◌, length, map, drop, get_or, refl, sym, ap, ◌∙◌, subst, arith, length-append, ◌==◌, take, append_assoc}
use Rattle.std.specs.Option.{is_some}
use Rattle.std.proofs.lemmas.List.Elements.{All-append, All-cons, All-head, All-map, All-nil, All-tail}
use Rattle.std.specs.Prelude.{All, Some, slice_get, if◌then◌else◌, ◌==◌}
use Rattle.std.proofs.lemmas.List.{take_all, take-append-le, drop-append-le, length-drop, get_or_push, get_or_past, length_push, length-map, nil_from_length, take-append-drop}
use Rattle.std.proofs.Math.ListN.{get_or-append}
use Rattle.entry_word.specs.Marks.{IsSmallMark, MarksUnpack, mark_in, mark_word}
use Rattle.entry_word.specs.declared.mark.PresenceMark.{PresenceMark}
use Rattle.entry_word.specs.declared.mark.PresenceMark.TheVariants.{Empty, Here, Gone, Coming}
use Rattle.entry_word.specs.declared.visit.Visit.{Visit}
use Rattle.directory.specs.Settings.{Setting, start}
use Rattle.directory.specs.Courses.{Course, MayStep, MaySteps, Move, Step, after_step, after_steps, last_stop, move_to, next_move, course_at}
use Rattle.directory.specs.Writes.{Write, commit_place, erasure_writes, mark_at, move_writes, new_address, numbers_from, purge_writes, step_writes, visit_of, writes, visits}
use Rattle.directory.specs.Outcomes.{step_line, step_lines}
use Rattle.machine.specs.Subscribers.{line_after}
use Rattle.handset.specs.Stands.{is_commit}
use Rattle.directory.specs.Standing.{commit_of}
use Rattle.entry_word.specs.MarkLaws.{read-mark}
use Rattle.node_set.specs.SetLaws.{length-passing_all}
use Rattle.directory.specs.Histories.{History, own, tickets}
use Rattle.directory.specs.Legal.{IsScript}
use Rattle.directory.specs.Orders.{AreValid, next, steps_of}
use Rattle.directory.specs.StepLaws.{last_stop-moved, visits-more}
use Rattle.net_reader.specs.Input.{Contents}
use Rattle.region_plan.specs.Plan.{PlanData, nodes_of}
use Rattle.distances.specs.Table.{DistanceTable}
use Rattle.scripts.specs.Scripts.{scripts_of}
use Rattle.machine.specs.Stands.{BelongTogether, over, setting_over}
use Rattle.scripts.specs.Laws.{ScriptsAreValid}
use Rattle.machine.specs.ScriptVisits.{in-script}
use Rattle.directory.specs.HistoryLaws.{next-sub}
use Rattle.directory.specs.Statements.{TicketsGrow, OwnGrow}
use Rattle.directory.specs.ListLaws.{slice_get-right}

-- the lines of steps, the last of which may be under way
pub lines-partial : (setting : Setting) (sub : ℕ) (course : Course) (done : List Step) (step : Step)
    (seen more : List ℕ) → length seen ≡ length (writes setting course done)
    → length more ≤ length (step_writes setting (after_steps setting course done) step)
    → step_lines setting sub course (done ++ step ∷ []) (seen ++ more)
    ≡ step_lines setting sub course done seen ++ step_line setting sub (after_steps setting course done) step more ∷ []
unfolding step_lines writes
lines-partial setting sub course [] step seen more count few = grind (arith, nil_from_length, take_all)
lines-partial setting sub course (one ∷ done) step seen more count few =
    let size : ℕ = length (step_writes setting course one) in
    let whole = length-append (step_writes setting course one) (writes setting (after_step setting course one) done) in
    let room : size ≤ length seen = omega (arith, count, whole) in
    rw (
      take-append-le size seen more room,
      drop-append-le size seen more room,
      lines-partial setting sub (after_step setting course one) done step (drop size seen) more
          (omega (arith, count, whole, length-drop size seen)) few,
    )

-- of the visits of a move the one behind the new addresses commits it, and no other
abbrev IsQuiet : ℕ → Write → Type 0
IsQuiet sub write = is_commit (visit_of sub write).act ≡ false

quiet-get : (sub : ℕ) (ys : List Write) (i : ℕ) {visit : Visit} → All (IsQuiet sub) ys
    → slice_get (map (visit_of sub) ys) i ≡ Some visit → is_commit visit.act ≡ false
quiet-get sub [] i q h = cc
quiet-get sub (y ∷ ys) zero {visit} q h = grind (arith, IsQuiet, All-head)
quiet-get sub (y ∷ ys) (suc i) q h = quiet-get sub ys i (All-tail (IsQuiet sub) y ys q) h

pub record Tells (commits : Bool) (i place : ℕ) : Type 0 where
  pub there : commits ≡ true → i ≡ place
  pub alone : i ≡ place → commits ≡ true

gone-at : (sub : ℕ) (xs : List Write) (gone : Write) (ys : List Write) → All (IsQuiet sub) xs
    → is_commit (visit_of sub gone).act ≡ true → All (IsQuiet sub) ys → (i : ℕ) {visit : Visit}
    → slice_get (map (visit_of sub) (xs ++ gone ∷ ys)) i ≡ Some visit → Tells (is_commit visit.act) i (length xs)
gone-at sub [] gone ys q g r zero {visit} h =
    let e : visit_of sub gone ≡ visit = cc in
    record { there = λ _. refl; alone = λ _. subst (λ (v : Visit). is_commit v.act ≡ true) e g }
gone-at sub [] gone ys q g r (suc i) {visit} h =
    let quiet : is_commit visit.act ≡ false = quiet-get sub ys i r h in
    record { there = λ t. cc; alone = λ e. absurd (omega arith) }
gone-at sub (x ∷ xs) gone ys q g r zero {visit} h =
    let quiet : is_commit visit.act ≡ false = quiet-get sub (x ∷ xs) zero q h in
    record { there = λ t. cc; alone = λ e. absurd (omega arith) }
gone-at sub (x ∷ xs) gone ys q g r (suc i) h =
    let deep = gone-at sub xs gone ys (All-tail (IsQuiet sub) x xs q) g r i h in
    record { there = λ t. ap suc (deep.there t); alone = λ e. deep.alone (omega arith) }

pub move-commits : MarksUnpack → (setting : Setting) (sub : ℕ) (course : Course) (move : Move) → move.number < 2 ^ 32
    → move.from < 2 ^ 16 → move.to < 2 ^ 16 → (i : ℕ) {visit : Visit}
    → slice_get (map (visit_of sub) (move_writes setting course move)) i ≡ Some visit
    → Tells (is_commit visit.act) i (commit_place move)
move-commits unpack setting sub course move number from to i {visit} h =
    let says : (node : ℕ) (mark : PresenceMark) (b : Bool) → IsSmallMark mark → is_some (commit_of node mark) ≡ b
    → is_some (commit_of node (mark_in (mark_word mark))) ≡ b = grind (arith, read-mark) in
    let levels : List ℕ = numbers_from 0 (suc move.renewed) in
    let renewals : List Write = map (new_address setting move) levels in
    let removals : List Write = erasure_writes setting course move ++ purge_writes setting course move in
    let coming : Write = mark_at move.to (Coming move.number move.from) in
    let here : Write = mark_at move.to (Here move.number) in
    let count : suc (length renewals) ≡ commit_place move =
    ap suc (length-map levels (new_address setting move) ∙ length-passing_all 0 (suc move.renewed)) in
    subst (Tells (is_commit visit.act) i) count
    (gone-at sub (coming ∷ renewals) (mark_at move.from (Gone move.number move.to))
    (here ∷ removals)
    (All-cons (IsQuiet sub) coming renewals (says move.to (Coming move.number move.from) false (number, from) refl)
    (All-map (IsQuiet sub) (new_address setting move) levels (λ k d low. refl)))
    (says move.from (Gone move.number move.to) true (number, to) refl)
    (All-cons (IsQuiet sub) here removals (says move.to (Here move.number) false number refl)
    (All-append (IsQuiet sub) (erasure_writes setting course move) (purge_writes setting course move)
    (All-map (IsQuiet sub) _ _ (λ k d low. refl)) (quiet-purge (move.renewed == setting.top) _
    (λ node. says node Empty false tt refl)))) i h)
  where
    quiet-purge : (b : Bool) (nodes : List ℕ)
        → ((node : ℕ) → is_some (commit_of node (mark_in (mark_word Empty))) ≡ false)
        → All (IsQuiet sub) (if b then map (λ node. mark_at node Empty) nodes else [])
    quiet-purge true nodes e = All-map (IsQuiet sub) (λ node. mark_at node Empty) nodes
        (λ k d low. e (get_or nodes k d))
    quiet-purge false nodes e = All-nil (IsQuiet sub)

-- the commit of a line, a ticket more
commit-grows : (seen : List ℕ) (ticket : ℕ) {place : ℕ} (commits : Bool) → Tells commits (length seen) place
    → get_or (seen ++ ticket ∷ []) place 0 ≡ (if commits then ticket else get_or seen place 0)
commit-grows seen ticket {place} true tells = get_or_push seen ticket 0 place (tells.there refl)
commit-grows seen ticket {place} false tells = grind (arith, get_or-append, length_push, get_or_past)

one_get : (xs : Visit) (i : ℕ) {visit : Visit} → slice_get (xs ∷ []) i ≡ Some visit → i < 1
one_get x zero h = omega arith
one_get x (suc i) h = cc

-- the line of a step under way, a ticket more
pub line-grows : MarksUnpack → (setting : Setting) (sub : ℕ) (course : Course) (step : Step) (seen : List ℕ)
    (ticket : ℕ) {visit : Visit} → MayStep setting course step → setting.nodes ≤ 2 ^ 16
    → last_stop course < setting.nodes → 0 < length seen
    → slice_get (map (visit_of sub) (step_writes setting course step)) (length seen) ≡ Some visit
    → step_line setting sub course step (seen ++ ticket ∷ []) ≡ line_after (step_line setting sub course step seen)
    (is_commit visit.act) ticket
line-grows unpack setting sub course (move_to node) seen ticket {visit} may small inside some at =
    let move : Move = next_move setting course node in
    let tells : Tells (is_commit visit.act) (length seen) (commit_place move) =
    move-commits unpack setting sub course move may.few (omega (arith, inside, small))
    (omega (arith, may.inside, small)) (length seen) at in
    let first : get_or (seen ++ ticket ∷ []) 0 0 ≡ get_or seen 0 0 = get_or-append seen (ticket ∷ []) 0 0 some in
    let last : get_or (seen ++ ticket ∷ []) (length (seen ++ ticket ∷ []) - 1) 0 ≡ ticket =
    get_or_push seen ticket 0 (length (seen ++ ticket ∷ []) - 1) (omega (arith, length_push seen ticket)) in
    rw (first, commit-grows seen ticket (is_commit visit.act) tells, last)
line-grows unpack setting sub course step seen ticket may small inside some at = grind (arith, one_get)

-- steps that may be made, one of them
pub may-at : (setting : Setting) (course : Course) (before : List Step) (step : Step) (later : List Step)
    → MaySteps setting course (before ++ step ∷ later) → last_stop course < setting.nodes
    → MayStep setting (after_steps setting course before) step
    × (last_stop (after_steps setting course before) < setting.nodes)
unfolding MaySteps
may-at setting course [] step later may inside = (may.0, inside)
may-at setting course (move_to node ∷ before) step later may inside =
    may-at setting (after_step setting course (move_to node)) before step later may.1
    (rw last_stop-moved may.0.inside)
may-at setting course (one ∷ before) step later may inside =
    may-at setting (after_step setting course one) before step later may.1 inside

actor-of : (sub : ℕ) (ws : List Write) (i : ℕ) {visit : Visit} → slice_get (map (visit_of sub) ws) i ≡ Some visit
    → visit.actor ≡ sub
actor-of sub [] i h = cc
actor-of sub (w ∷ ws) zero {visit} h = let e : visit_of sub w ≡ visit = cc in sym (ap (λ (v : Visit). v.actor) e)
actor-of sub (w ∷ ws) (suc i) h = actor-of sub ws i h

-- a list that isn't empty has a last element
pub record HasLast (steps : List Step) : Type 0 where
  pub before : List Step
  pub last : Step
  pub are : steps ≡ before ++ last ∷ []

has-last : (x : Step) (xs : List Step) → HasLast (x ∷ xs)
has-last x [] = record { before = []; last = x; are = refl }
has-last x (y ∷ ys) = let deep = has-last y ys in
    record { before = x ∷ deep.before; last = deep.last; are = ap (λ zs. x ∷ zs) deep.are }

pub steps-last : (setting : Setting) (sub n : ℕ) (steps : List Step) {visit : Visit}
    → slice_get (visits setting sub steps) n ≡ Some visit → HasLast steps
unfolding writes
steps-last setting sub n [] h = cc
steps-last setting sub n (step ∷ steps) h = has-last step steps

-- the visits of the last of some steps
pub last-visit : (setting : Setting) (sub n : ℕ) (before : List Step) (step : Step) {visit : Visit}
    → length (writes setting (course_at (start setting sub)) before) ≤ n
    → slice_get (visits setting sub (before ++ step ∷ [])) n ≡ Some visit
    → slice_get (map (visit_of sub) (step_writes setting (after_steps setting (course_at (start setting sub)) before)
    step)) (n - length (writes setting (course_at (start setting sub)) before)) ≡ Some visit
last-visit setting sub n before step past h = grind (arith, slice_get-right, length-map, visits-more)

-- what is known of a subscriber after a visit of its own
pub record Seen (input : Contents) (plan : PlanData) (history : History) (sub : ℕ) (visit : Visit) : Type 0 where
  pub turn : next (setting_over input plan) (scripts_of input) history sub ≡ Some visit
  pub count : length (own sub (history ++ visit ∷ [])) ≡ suc (length (own sub history))
  pub seen : tickets sub (history ++ visit ∷ []) ≡ tickets sub history ++ length history ∷ []

pub seen-after : OwnGrow → TicketsGrow → (input : Contents) (plan : PlanData) (history : History) (sub k : ℕ)
    {visit : Visit} → sub < length input.homes → slice_get
    (visits (setting_over input plan) sub (take k (steps_of (scripts_of input) sub))) (length (own sub history)) ≡ Some
    visit → Seen input plan history sub visit
seen-after own_law ticket_law input plan history sub k {visit} low at =
    let mine : (visit.actor == sub) ≡ true = grind (arith, actor-of) in
    record {
      turn = next-sub (setting_over input plan) (scripts_of input) history sub low
          ∙ in-script (setting_over input plan) sub k (length (own sub history))
          (steps_of (scripts_of input) sub) visit at;
      count = rw (own_law sub history visit, mine) (omega (arith, length_push (own sub history) visit));
      seen = rw (ticket_law sub history visit, mine);
    }

-- a step of a valid script, where it comes
pub step-allowed : ScriptsAreValid → {input : Contents} {plan : PlanData} {distances : DistanceTable} (sub k : ℕ)
    (before : List Step) (step : Step) → BelongTogether input plan distances → sub < length input.homes
    → take k (steps_of (scripts_of input) sub) ≡ before ++ step ∷ []
    → MayStep (setting_over input plan) (after_steps (setting_over input plan)
    (course_at (start (setting_over input plan) sub)) before)
    step × (last_stop (after_steps (setting_over input plan) (course_at (start (setting_over input plan) sub)) before)
    < nodes_of plan)
step-allowed scripts {input} {plan} {distances} sub k before step together low same =
    let valid : AreValid (setting_over input plan) (scripts_of input) =
    scripts input (setting_over input plan) together.valid (over input plan distances together) in
    let script : IsScript (setting_over input plan) sub (steps_of (scripts_of input) sub) = valid.steps sub low in
    let whole : steps_of (scripts_of input) sub ≡ before ++ step ∷ drop k (steps_of (scripts_of input) sub) =
    sym (take-append-drop k (steps_of (scripts_of input) sub)) ∙ rw (same, append_assoc) in
    grind (arith, may-at)
