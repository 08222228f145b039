-- What a machine stands for: its subscribers and callers before their first visits, and all of it after a visit.
use Rattle.std.proofs.Common.{◌≡◌, ℕ, ◌+◌, ◌<◌, ◌≤◌, false, List, [], ◌∷◌, ◌++◌, length, map, get_or, refl, sym, ap, ◌∙◌, subst, arith, Vec, Global, ◌≢◌, zero, suc, ◌==◌, append_assoc}
use Rattle.std.specs.Prelude.{None, vec_capacity, vec_len, Option, Some, replicate, slice_set}
use Rattle.std.specs.Vec.{with_item}
use Rattle.std.proofs.Math.Nat.{ℕ_set}
use Rattle.std.proofs.Math.Bridge.{le_prop}
use Rattle.std.proofs.lemmas.List.{get_or_push, length_push, length-map, get_or-map, append-nil, length-set, map-append, get_or-set_same, get_or-set_other, set-get_or}
use Rattle.std.proofs.Math.ListN.{get_or-append}
use Rattle.directory.specs.Finds.{at_origin}
use Rattle.directory.specs.Histories.{tickets_from, words_after, History}
use Rattle.directory.specs.Orders.{next, IsPlayed}
use Rattle.directory.specs.Outcomes.{step_lines}
use Rattle.net_reader.specs.declared.said.Call.{Call}
use Rattle.net_reader.specs.Input.{Contents}
use Rattle.net_reader.specs.Valid.{IsValid}
use Rattle.region_plan.specs.Plan.{PlanData}
use Rattle.handset.specs.Condition.{GoesWith}
use Rattle.handset.specs.StepWrites.{due}
use Rattle.handset.specs.Stands.{StandsForSteps}
use Rattle.region_plan.specs.Settings.{setting_of}
use Rattle.machine.specs.declared.caller.Caller.{Caller}
use Rattle.machine.specs.declared.subscriber.Subscriber.{Subscriber}
use Rattle.scripts.specs.Scripts.{find_of, scripts_of, step_of}
use Rattle.machine.specs.ScriptVisits.{script-inside}
use Rattle.machine.specs.Stands.{BeginInside, IsWalking, setting_over, Sees, over, AreMade}
use Rattle.machine.specs.Callers.{IsCaller, MayLook}
use Rattle.machine.specs.Subscribers.{IsShown, IsSubscriber, Shown, begun_steps, shown_at, MayTakeTurn}
use Rattle.machine.proofs.Looked.{by-parts}
use Rattle.scripts.specs.ScriptLaws.{finds-are, steps-are}
use Rattle.std.proofs.lemmas.Bool.{ne_eqb}
use Rattle.std.proofs.lemmas.List.Sums.{fold-append}
use Rattle.entry_word.specs.declared.visit.Key.{Key}
use Rattle.entry_word.specs.declared.visit.Visit.{Visit}
use Rattle.directory.specs.Looks.{look_by}
use Rattle.directory.specs.Statements.{CallersKept, TicketsGrow, OwnGrow, MoreIsPlayed}
use Rattle.visit_log.specs.Cells.{CellData}
use Rattle.machine.specs.declared.machine.Machine.{Machine}
use Rattle.scripts.specs.Laws.{VisitsAreFew}
use Rattle.machine.specs.Machines.{HasHistory, input_at, scripts_at, setting_at, HasMade, HasStridden}
use Rattle.machine.proofs.Making.{made-count, no-visits}

shown-opens : {input : Contents} {plan : PlanData} {sub : ℕ} (shown : Shown) → IsValid input → sub < length input.homes
    → StandsForSteps (setting_over input plan) shown.handset [] 0 → GoesWith plan shown.handset
    → shown.handset.sub ≡ sub → shown.lines.items ≡ [] → vec_capacity shown.lines ≡ length (get_or input.scripts sub [])
    → IsShown input plan [] sub shown
unfolding step_lines
shown-opens {input} {plan} {sub} shown valid low stands goes its none room =
    let begun : begun_steps input sub shown ≡ [] = grind arith in
    record {
      handset = rw begun stands;
      goes = goes;
      its = its;
      lines = rw (begun, none);
      few = omega (arith, ap length none);
      under = λ before step split. absurd (omega (arith, ap length (sym begun ∙ split), length_push before step));
      room = omega
          (arith, room, ap length (steps-are input sub valid low), length-map (get_or input.scripts sub []) step_of);
    }

pub sub-opens : {input : Contents} {plan : PlanData} {sub : ℕ} (subscriber : Subscriber) → IsValid input
    → sub < length input.homes → StandsForSteps (setting_over input plan) subscriber.handset [] 0
    → GoesWith plan subscriber.handset → subscriber.handset.sub ≡ sub → subscriber.ahead.items ≡ []
    → subscriber.made ≡ 0 → vec_capacity subscriber.ahead ≡ 64 → subscriber.lines.items ≡ []
    → vec_capacity subscriber.lines ≡ length (get_or input.scripts sub [])
    → due (setting_of plan []) subscriber.handset ≡ None → IsSubscriber input plan [] sub subscriber
sub-opens {input} {plan} subscriber valid low stands goes its empty none space no_lines room resting =
    record {
      handset = subscriber.handset;
      shown = shown-opens (shown_at subscriber.handset subscriber) valid low stands goes its no_lines room;
      owes = rw (none, empty) refl;
      goes = goes;
      its = its;
      within = omega (arith, none);
      space = space;
      rests = λ more. resting;
    }

pub caller-opens : (input : Contents) (plan : PlanData) (actor : ℕ) (caller : Caller) {script : List Call}
    → length input.homes ≤ actor → actor < length input.scripts → script ≡ get_or input.scripts actor []
    → IsWalking plan (map find_of script) at_origin caller.walk → caller.first ≡ None → caller.lines.items ≡ []
    → vec_capacity caller.lines ≡ length script → IsCaller input plan [] actor caller
unfolding words_after tickets_from
caller-opens input plan actor caller {script} high low same walks first none room =
    grind (arith, finds-are input (setting_over input plan) actor refl high low, length-map script find_of, by-parts)

-- a list into which an item is put back is the same
same-ok : {a b c : ℕ} (one other : (a ≡ b) × (a ≤ c)) → one ≡ other
same-ok {a} {b} one other =
    ap (λ p. (p, one.1)) (ℕ_set a b one.0 other.0) ∙ ap (λ q. (other.0, q)) (le_prop one.1 other.1)

put-back : {X : Type 0} (v : Vec X Global) (place : ℕ) {x y : X} → x ≡ get_or v.items place x → y ≡ x
    → with_item v place y ≡ v
put-back v place {x} {y} here same =
    subst (λ items. (ok : (vec_len v ≡ length items) × (vec_len v ≤ vec_capacity v))
    → record v { items = items; ok = ok } ≡ v)
    (sym (ap (slice_set v.items place) (same ∙ here) ∙ set-get_or v.items place x))
    (λ ok. ap (λ k. record v { ok = k }) (same-ok ok v.ok)) (with_item v place y).ok

-- a machine whose subscriber is as before, with its cells and its order, is as before
pub sub-still : (old : Machine) (actor : ℕ) {x y : Subscriber} {cells : CellData} {order : Vec ℕ Global}
    → x ≡ get_or old.subscribers.items actor x → (y ≡ x) × (cells ≡ old.cells) → order ≡ old.order
    → record old { cells = cells; subscribers = with_item old.subscribers actor y; order = order } ≡ old
sub-still old actor {cells = cells} {order} here still kept =
    ap (λ s. record old { cells = cells; subscribers = s; order = order }) (put-back old.subscribers actor here still.0)
    ∙ ap (λ c. record old { cells = c; order = order }) still.1 ∙ ap (λ o. record old { order = o }) kept

-- and one whose caller is, with its order
pub caller-still : (old : Machine) (place : ℕ) {x y : Caller} {order : Vec ℕ Global}
    → x ≡ get_or old.callers.items place x → y ≡ x → order ≡ old.order
    → record old { callers = with_item old.callers place y; order = order } ≡ old
caller-still old place {order = order} here same kept =
    ap (λ s. record old { callers = s; order = order }) (put-back old.callers place here same)
    ∙ ap (λ o. record old { order = o }) kept

-- what holds at each place of a list and of one item more
pub each-more : {A : Type 0} (P : ℕ → A → Type 0) (xs : List A) {x : A} {n : ℕ} {ys : List A} → ys ≡ xs ++ x ∷ []
    → length xs ≡ n → ((s : ℕ) (d : A) → s < n → P s (get_or xs s d)) → P n x → (s : ℕ) (d : A) → s < n + 1
    → P s (get_or ys s d)
each-more P xs {x} {n} more count each last s d low = grind (arith, get_or-append, get_or_push)

-- the scripts of a valid input are inside, as the code holds them
pub scripts-inside : {input : Contents} (scripts : List (Vec Call Global)) {n : ℕ} → IsValid input
    → input.scripts ≡ map (λ (s : Vec Call Global). s.items) scripts → n ≡ input.nodes → (k : ℕ) (d : Vec Call Global)
    → k < length scripts → BeginInside n (get_or scripts k d).items
scripts-inside {input} scripts valid same nodes k d low =
    rw (nodes, ← get_or-map (λ (s : Vec Call Global). s.items) scripts k d [] low, ← same)
    (script-inside k valid (omega (arith, low, ap length same, length-map scripts (λ (s : Vec Call Global). s.items))))

-- a visit of another changes nothing of what is seen of a subscriber
shown-kept : OwnGrow → TicketsGrow → {input : Contents} {plan : PlanData} {history : History} {sub : ℕ} {shown : Shown}
    (visit : Visit) → (visit.actor == sub) ≡ false → IsShown input plan history sub shown
    → IsShown input plan (history ++ visit ∷ []) sub shown
shown-kept own_law ticket_law {input} {plan} {history} {sub} {shown} visit other its = grind (arith, append-nil)

-- nor of the subscriber
sub-kept : OwnGrow → TicketsGrow → {input : Contents} {plan : PlanData} {history : History} {sub : ℕ}
    {subscriber : Subscriber} (visit : Visit) → (visit.actor == sub) ≡ false
    → IsSubscriber input plan history sub subscriber → IsSubscriber input plan (history ++ visit ∷ []) sub subscriber
sub-kept own_law ticket_law visit other its = let shown = shown-kept own_law ticket_law visit other its.shown in search

-- nor of a caller
caller-kept : CallersKept → {input : Contents} {plan : PlanData} {history : History} {actor : ℕ} {caller : Caller}
    (visit : Visit) → (visit.actor == actor) ≡ false → IsCaller input plan history actor caller
    → IsCaller input plan (history ++ visit ∷ []) actor caller
caller-kept law {input} {plan} {history} {actor} {caller} visit other its =
    let same = law (setting_over input plan) (scripts_of input) history actor visit other in
    grind (arith, by-parts)

-- what holds of the changed element of a list, and of the others, holds of each behind the change
each-set : {A : Type 0} (P : ℕ → A → Type 0) (xs ys : List A) (i : ℕ) (x : A) → ys ≡ slice_set xs i x → P i x
    → ((k : ℕ) (d : A) → k < length xs → k ≢ i → P k (get_or xs k d)) → (k : ℕ) (d : A) → k < length xs
    → P k (get_or ys k d)
each-set P xs ys i x items its others k d low = grind (arith, get_or-set_same, get_or-set_other)

-- each visit was its actor's next one, and cells hold what the history leaves
pub sees-more : MoreIsPlayed → {input : Contents} {plan : PlanData} {cells : CellData} {history : History} (actor : ℕ)
    (key : Key) → Sees input plan cells history → next (setting_over input plan) (scripts_of input) history actor ≡ Some
    (look_by actor key) → Sees input plan cells (history ++ look_by actor key ∷ [])
sees-more more {input} {plan} {history} actor key sees wants =
    record {
      played = more (setting_over input plan) (scripts_of input) history actor (look_by actor key) wants sees.played;
      goes = sees.goes;
      hold = grind (arith, fold-append);
    }

-- what a visit of an actor keeps, many keep
kept-all : (P : History → Type 0) {actor : ℕ} (visits : List Visit) (count : ℕ) {history : History}
    → ((before : History) (visit : Visit) → visit.actor ≡ actor → P before → P (before ++ visit ∷ []))
    → map (λ (v : Visit). v.actor) visits ≡ replicate count actor → P history → P (history ++ visits)
kept-all P [] count step same is = rw append-nil is
kept-all P (visit ∷ visits) zero step same is = cc
kept-all P {actor} (visit ∷ visits) (suc count) {history} step same is =
    let its : visit.actor ≡ actor = cc in
    let rest : map (λ (v : Visit). v.actor) visits ≡ replicate count actor = cc in
    rw append_assoc at (kept-all P visits count step rest (step history visit its is))

-- a history that is played has room in the order
order-fits : VisitsAreFew → {machine : Machine} {history : History} (later : History) → HasHistory machine history
    → IsPlayed (setting_at machine) (scripts_at machine) later → length later ≤ vec_capacity machine.order
order-fits few {machine} later is played =
    omega (
      arith,
      few (input_at machine) (setting_at machine) later is.together.valid
          (over (input_at machine) machine.plan.now machine.distances.now is.together) played,
      is.room,
    )

-- an actor that makes none of the visits that the order has room for has none left
none-left : VisitsAreFew → MoreIsPlayed → {machine : Machine} {history : History} (actor reach : ℕ)
    (wants : Option Visit) → HasHistory machine history → (reach ≡ 0 → vec_capacity machine.order ≤ length history)
    → next (setting_at machine) (scripts_at machine) history actor ≡ wants
    → (0 < reach → next (setting_at machine) (scripts_at machine) history actor ≡ None)
    → next (setting_at machine) (scripts_at machine) history actor ≡ None
none-left few more actor reach None is full same law = same
none-left few more {machine} {history} actor zero (Some visit) is full same law = grind (
  arith,
  order-fits few (history ++ visit ∷ []) is
      (more (setting_at machine) (scripts_at machine) history actor visit same is.sees.played),
  length_push history visit,
)
none-left few more actor (suc reach) (Some visit) is full same law = law (omega arith)

-- many visits of an actor, behind the history of a machine
module _ {old : Machine} {history : History} {actor count : ℕ} {cells : CellData} {Holds : History → Type 0}
    (stands : HasHistory old history)
    (made : AreMade (input_at old) old.plan.now cells history actor count Holds) where
  -- the order has room for them
  pub rooms-left : VisitsAreFew → length history + count ≤ vec_capacity old.order
  rooms-left few = omega (arith, order-fits few (history ++ made.visits) stands made.sees.played, made-count made refl)

  -- where they were none, none is left
  pub stridden : VisitsAreFew → MoreIsPlayed → {new : Machine} (reach : ℕ) → HasMade old new history actor count
      → (reach ≡ 0 → vec_capacity old.order ≤ length history) → (count < reach
      → next (setting_at old) (scripts_at old) (history ++ made.visits) actor ≡ None) → (count ≡ 0 → new ≡ old)
      → HasStridden old new history actor count
  stridden few more reach turned full ends still = (
    turned,
    λ none. (
      none-left few more actor reach (next (setting_at old) (scripts_at old) history actor) stands full refl
          (λ some. rw (no-visits made none, append-nil) at (ends (omega (arith, some, none)))),
      still none,
    ),
  )

  -- what the machine stands for then
  turned : (subscribers : Vec Subscriber Global) (callers : Vec Caller Global) (order : Vec ℕ Global)
      → order.items ≡ old.order.items ++ replicate count actor → vec_capacity order ≡ vec_capacity old.order
      → length subscribers.items ≡ length old.subscribers.items → length callers.items ≡ length old.callers.items
      → vec_capacity subscribers ≡ vec_capacity old.subscribers → vec_capacity callers ≡ vec_capacity old.callers
      → ((s : ℕ) (d : Subscriber) → s < length (input_at old).homes
      → IsSubscriber (input_at old) old.plan.now (history ++ made.visits) s (get_or subscribers.items s d))
      → ((c : ℕ) (d : Caller) → c < (input_at old).callers → IsCaller (input_at old) old.plan.now
      (history ++ made.visits) (length (input_at old).homes + c) (get_or callers.items c d))
      → HasMade old (record old { cells = cells; subscribers = subscribers; callers = callers; order = order }) history
      actor count
  turned subscribers callers order pushed room subs_count callers_count subs_room callers_room subs_are callers_are
      = record {
        stands = subst (HasHistory _) (sym made.turns) (record {
          together = stands.together;
          homes = stands.homes;
          routes = stands.routes;
          sees = made.sees;
          order = rw (map-append, made.actors, ← stands.order) pushed;
          room = room ∙ stands.room;
          subscribers_count = subs_count ∙ stands.subscribers_count;
          callers_count = callers_count ∙ stands.callers_count;
          subscribers_room = subs_room ∙ stands.subscribers_room;
          callers_room = callers_room ∙ stands.callers_room;
          subscribers = subs_are;
          callers = callers_are;
          calls = stands.calls;
          total = stands.total;
        });
        made = ap length made.turns ∙ made-count made refl;
      }

  -- the other actors are as far as they were
  subs-stay : OwnGrow → TicketsGrow → (s : ℕ) (d : Subscriber) → s < length (input_at old).homes → s ≢ actor
      → IsSubscriber (input_at old) old.plan.now (history ++ made.visits) s (get_or old.subscribers.items s d)
  subs-stay own_law ticket_law s d low other =
      kept-all (λ h. IsSubscriber (input_at old) old.plan.now h s (get_or old.subscribers.items s d)) made.visits count
      (λ before visit same. sub-kept own_law ticket_law visit (ne_eqb visit.actor s (λ e. other (sym e ∙ same))))
      made.actors (stands.subscribers s d low)

  callers-stay : CallersKept → (c : ℕ) (d : Caller) → c < (input_at old).callers
      → length (input_at old).homes + c ≢ actor → IsCaller (input_at old) old.plan.now (history ++ made.visits)
      (length (input_at old).homes + c) (get_or old.callers.items c d)
  callers-stay kept c d low other =
      kept-all (λ h. IsCaller (input_at old) old.plan.now h (length (input_at old).homes + c)
      (get_or old.callers.items c d)) made.visits count (λ before visit same. caller-kept kept visit
      (ne_eqb visit.actor (length (input_at old).homes + c) (λ e. other (sym e ∙ same)))) made.actors
      (stands.callers c d low)

  -- so after visits of a subscriber
  pub sub-turned : OwnGrow → TicketsGrow → CallersKept → {subscriber : Subscriber} (subscribers : Vec Subscriber Global)
      (order : Vec ℕ Global) → actor < length (input_at old).homes
      → IsSubscriber (input_at old) old.plan.now (history ++ made.visits) actor subscriber
      → subscribers.items ≡ slice_set old.subscribers.items actor subscriber
      → vec_capacity subscribers ≡ vec_capacity old.subscribers
      → order.items ≡ old.order.items ++ replicate count actor → vec_capacity order ≡ vec_capacity old.order
      → HasMade old (record old { cells = cells; subscribers = subscribers; order = order }) history actor count
  sub-turned own_law ticket_law kept {subscriber} subscribers order low its items same pushed room =
      turned subscribers old.callers order pushed room (rw (items, length-set)) refl same refl
      (λ s d below. each-set (IsSubscriber (input_at old) old.plan.now (history ++ made.visits)) old.subscribers.items
      subscribers.items actor subscriber items its (λ k e within. subs-stay own_law ticket_law k e
      (omega (arith, within, stands.subscribers_count))) s d (omega (arith, below, stands.subscribers_count)))
      (λ c d below. callers-stay kept c d below (λ e. omega (arith, e, low)))

  -- and of a caller
  pub caller-turned : OwnGrow → TicketsGrow → CallersKept → (place : ℕ) {caller : Caller} (callers : Vec Caller Global)
      (order : Vec ℕ Global) → actor ≡ length (input_at old).homes + place
      → IsCaller (input_at old) old.plan.now (history ++ made.visits) actor caller
      → callers.items ≡ slice_set old.callers.items place caller → vec_capacity callers ≡ vec_capacity old.callers
      → order.items ≡ old.order.items ++ replicate count actor → vec_capacity order ≡ vec_capacity old.order
      → HasMade old (record old { cells = cells; callers = callers; order = order }) history actor count
  caller-turned own_law ticket_law kept place {caller} callers order at its items same pushed room =
      turned old.subscribers callers order pushed room refl (rw (items, length-set)) refl same
      (λ s d below. subs-stay own_law ticket_law s d below (λ e. omega (arith, e, at, below)))
      (λ c d below. each-set (λ k x. IsCaller (input_at old) old.plan.now (history ++ made.visits)
      (length (input_at old).homes + k) x) old.callers.items callers.items place caller items (rw at at its)
      (λ k e within other. callers-stay kept k e (omega (arith, within, stands.callers_count))
      (λ q. other (omega (arith, q, at)))) c d (omega (arith, below, stands.callers_count)))

-- a subscriber of a machine may have its turn
abbrev pub sub-may : {machine : Machine} {history : History} (actor : ℕ) {ticket : ℕ} {x : Subscriber}
    → HasHistory machine history → actor < length (input_at machine).homes → ticket ≡ length machine.order.items
    → x ≡ get_or machine.subscribers.items actor x
    → MayTakeTurn (input_at machine) machine.plan.now machine.cells ticket actor x
sub-may {history = history} actor {x = x} stands low count same =
    (history, stands.sees, sym (rw (count, stands.order, length-map)), rw same (stands.subscribers actor x low))

-- and a caller
abbrev pub caller-may : {machine : Machine} {history : History} {actor : ℕ} (place : ℕ) {ticket : ℕ} {x : Caller}
    → HasHistory machine history → actor ≡ length (input_at machine).homes + place
    → actor < length (input_at machine).scripts → ticket ≡ length machine.order.items
    → x ≡ get_or machine.callers.items place x
    → MayLook (input_at machine) machine.plan.now machine.cells ticket actor x
caller-may {history = history} place {x = x} stands at low count same = (
  history,
  stands.sees,
  sym (rw (count, stands.order, length-map)),
  rw (at, same) (stands.callers place x (omega (arith, at, low, stands.together.valid.scripts))),
)
