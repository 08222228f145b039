-- What becomes of a run in the end.
use Rattle.std.proofs.Common.{◌≡◌, inl, inr, ℕ, zero, suc, ◌+◌, ◌<◌, List, [], ◌∷◌, ◌++◌, length, map, take, drop, get_or, sym, ap, ◌∙◌, subst, arith}
use Rattle.std.specs.Prelude.{All, Some, slice_get, option_to_list, option_map}
use Rattle.std.proofs.lemmas.List.{get_or-map, length-map}
use Rattle.std.proofs.lemmas.Bool.{cases_lt}
use Rattle.directory.specs.Settings.{Setting}
use Rattle.directory.specs.Histories.{History, IsFront, own}
use Rattle.directory.specs.HistoryLaws.{front-append, front-itself, front-through}
use Rattle.directory.specs.Orders.{IsPlayed, Scripts, after_turn, after_turns, history_of, last_turns, next}
use Rattle.directory.specs.Outcomes.{Outcome, outcome_in, outcome_of}
use Rattle.directory.specs.Statements.{HistoriesAreOrdered, OrdersAreDone, OrdersAreOwn, OrdersArePlayed}
use Rattle.directory.specs.StepLaws.{slice_get-within}
use Rattle.distances.specs.Table.{DistanceTable}
use Rattle.machine.specs.Stands.{BelongTogether, setting_over}
use Rattle.net_reader.specs.Input.{Contents}
use Rattle.region_plan.specs.Plan.{PlanData}
use Rattle.region_plan.specs.Settings.{setting_of}
use Rattle.scripts.specs.Scripts.{scripts_of}
use Rattle.station.specs.Closing.{IsOrder}
use Rattle.station.specs.Opening.{setup_of}
use Rattle.station.specs.Passes.{IsFreshPass, IsPassOf, PassData, TrackerData, actor_of}
use Rattle.station.specs.declared.view.View.{View}
use Rattle.station.specs.Setup.{Setup, setting_in}
use Rattle.runner.specs.Playing.{IsPlayedBy}
use Rattle.runner.specs.PlayLaws.{all-played, get-either, own-none, played-in}
use Rattle.runner.specs.Roles.{HasBegunNone, IsSetFor}
use Rattle.runner.specs.Runs.{AreFreshWorkers, AreWorkersOf, HasFinished, IsOutcomeOfRun, actors_of}
use Rattle.runner.specs.Workers.{IsFreshWorker, IsWorkerOf, MayServe}
use Rattle.runner.specs.declared.worker.Worker.{Worker}
use Rattle.std.proofs.Math.Seq.{take-append_seam}
use Rattle.runner.proofs.Turning.{get-seam}
use Rattle.std.proofs.lemmas.Option.{slice_get-map}

get-map : {A B : Type 0} (f : A → B) (xs : List A) (k : ℕ) {x : A} → slice_get xs k ≡ Some x
    → slice_get (map f xs) k ≡ Some (f x)
get-map f [] k h = cc
get-map f (y ∷ ys) zero {x} h = let e : y ≡ x = cc in ap (λ z. Some (f z)) e
get-map f (y ∷ ys) (suc k) h = get-map f ys k h

-- turns only add visits
turns-front : (setting : Setting) (scripts : Scripts) (order : List ℕ) (history : History)
    → IsFront history (after_turns setting scripts history order)
turns-front setting scripts [] history = front-itself history
turns-front setting scripts (actor ∷ order) history =
    let one = after_turn setting scripts history actor in
    front-through history one (after_turns setting scripts one order)
    (front-append history (option_to_list (next setting scripts history actor)))
    (turns-front setting scripts order one)

-- the pass of a worker
pass-at : (workers : List Worker) (k : ℕ) {worker : Worker} → slice_get workers k ≡ Some worker
    → slice_get (map (λ (w : Worker). w.pass) workers) k ≡ Some worker.pass
pass-at workers k h =
    slice_get-map (λ (w : Worker). w.pass) workers k ∙ ap (option_map (λ (w : Worker). w.pass)) h

-- the setting of a tracker is that of its input and its plan
pub set-over : {input : Contents} {setup : Setup} {plan : PlanData} {distances : DistanceTable}
    → IsSetFor input setup plan distances → setting_over input plan ≡ setting_in setup
set-over {input} {setup} set =
    ap (λ (p : PlanData). setting_of p input.homes) set.plan_is
    ∙ ap (λ (homes : List ℕ). setting_of setup.plan homes) (sym set.homes)

-- each visit of the one history was its actor's next one
pub order-played : {input : Contents} {tracker : TrackerData} {workers : List Worker} {order : List ℕ}
    → AreWorkersOf input tracker workers → tracker.setup.actors ≡ length input.scripts
    → (its : IsOrder tracker.setup (map (λ (worker : Worker). worker.pass) workers) order)
    → IsPlayed (setting_in tracker.setup) (scripts_of input) its.history
order-played {input} {tracker} {workers} are count its =
    all-played (setting_in tracker.setup) (scripts_of input) its.history
    (λ actor. elim (cases_lt actor (length workers)) [
      | inl low ↦
          let found = slice_get-within workers actor low in
          let worker : Worker = found.0 in
          let each = are.each actor worker found.1 in
          let there : slice_get (map (λ (w : Worker). w.pass) workers) actor ≡ Some worker.pass =
          get-map (λ (w : Worker). w.pass) workers actor found.1 in
          subst (λ a. IsPlayedBy (setting_in tracker.setup) (scripts_of input) a its.history) each.1
          (played-in (setting_in tracker.setup) (scripts_of input) (actor_of worker.pass) worker.pass.view.seen
          its.history (its.seen actor worker.pass there) (its.visits actor worker.pass there) each.0.played)
      | inr high ↦ λ ticket visit got mine. absurd (own-none actor its.history ticket visit
          (its.known actor (omega (arith, high, are.count, count))) got mine)
    ])

-- a run is finished
pub finished : HistoriesAreOrdered → {input : Contents} {tracker : TrackerData} {plan : PlanData}
    {distances : DistanceTable} {workers : List Worker} {order : List ℕ} {outcome : Outcome}
    → IsSetFor input tracker.setup plan distances → AreWorkersOf input tracker workers
    → IsOrder tracker.setup (map (λ (worker : Worker). worker.pass) workers) order
    → outcome ≡ outcome_of (setting_over input plan) (scripts_of input) order
    → HasFinished input tracker.setup workers outcome
finished ordered {input} {tracker} {workers} {order} set are its is =
    let setting = setting_in tracker.setup in
    let scripts = scripts_of input in
    let played = order-played are set.actors its in
    record {
      history = its.history;
      seen = λ k worker at. its.seen k worker.pass (pass-at workers k at);
      visits = λ k worker at. subst (λ a. own a its.history ≡ own a worker.pass.view.seen) (are.each k worker at).1
          (its.visits k worker.pass (pass-at workers k at));
      known = λ actor high. its.known actor (omega (arith, high, are.count, set.actors));
      legal = its.legal;
      played = played;
      outcome_is = is ∙ (ap (λ s. outcome_of s scripts order) (set-over set)
          ∙ ap (outcome_of setting scripts) its.actors);
      begins = subst (IsFront its.history) (sym (ordered setting scripts its.history played))
          (turns-front setting scripts (last_turns setting scripts) its.history);
    }

-- the outcome of an order is that of the order which it tells itself
pub outcome-of-run : OrdersAreOwn → OrdersArePlayed → OrdersAreDone
    → (setting : Setting) (scripts : Scripts) (order : List ℕ) {outcome : Outcome}
    → outcome ≡ outcome_of setting scripts order → IsOutcomeOfRun setting scripts outcome
outcome-of-run own_law played done setting scripts order is =
    let history = history_of setting scripts order in
    record {
      order = actors_of history;
      is = is ∙ ap (outcome_in setting scripts)
          (sym (own_law setting scripts history (played setting scripts order) (done setting scripts order)));
      printed = ap (λ (o : Outcome). o.order) is;
    }

-- it stands there whatever the default
pub at-some : {A : Type 0} (xs : List A) (i : ℕ) {x : A} → slice_get xs i ≡ Some x
    → (i < length xs) × (get_or xs i x ≡ x)
at-some [] i at = cc
at-some (y ∷ ys) zero {x} at = let e : y ≡ x = cc in (omega arith, e)
at-some (y ∷ ys) (suc i) at = let deep = at-some ys i at in (omega (arith, deep.0), deep.1)

-- a fresh pass of a tracker may serve its actor
pub fresh-serves : {input : Contents} {plan : PlanData} {tracker : TrackerData} {actor : ℕ} {pass : PassData}
    → IsFreshPass tracker actor pass → IsSetFor input tracker.setup plan plan.distances → actor < length input.scripts
    → MayServe input plan pass
fresh-serves fresh set low = record {
  set = rw fresh.view set;
  outside = rw fresh.view;
  known = rw fresh.view low;
  none = rw fresh.view;
  bare = rw fresh.view;
  few = omega (arith, fresh.spare);
}

-- and its worker is that of the actor
pub fresh-actor : {tracker : TrackerData} {actor : ℕ} {pass made : PassData} → IsFreshPass tracker actor pass
    → made ≡ record pass { spare = made.spare } → actor_of made ≡ actor
fresh-actor fresh same =
    ap actor_of same ∙ ap (λ (v : View). v.low) fresh.view

-- one worker more
pub one-more : {input : Contents} {tracker : TrackerData} (workers : List Worker) {worker : Worker}
    → ((k : ℕ) (one : Worker) → slice_get workers k ≡ Some one → IsWorkerOf input tracker one × (actor_of one.pass ≡ k))
    → IsWorkerOf input tracker worker → actor_of worker.pass ≡ length workers → (k : ℕ) {one : Worker}
    → slice_get (workers ++ worker ∷ []) k ≡ Some one → IsWorkerOf input tracker one × (actor_of one.pass ≡ k)
one-more {input} {tracker} workers {worker} each its actor k {one} at =
    elim (get-either workers (worker ∷ []) k one at) [
      | inl there ↦ each k one there.0
      | inr last ↦ new last.0 last.1 last.2
    ]
  where
    new : (j : ℕ) → slice_get (worker ∷ []) j ≡ Some one → k ≡ length workers + j
        → IsWorkerOf input tracker one × (actor_of one.pass ≡ k)
    new zero h e = let same : worker ≡ one = cc in
        subst (λ (w : Worker). IsWorkerOf input tracker w × (actor_of w.pass ≡ k)) same (its, omega (arith, actor, e))
    new (suc j) h e = cc

-- which has done nothing
pub fresh-worker : {tracker : TrackerData} {actor : ℕ} {pass : PassData} (worker : Worker)
    → IsFreshPass tracker actor pass → worker.pass ≡ record pass { spare = worker.pass.spare } → worker.made ≡ 0
    → HasBegunNone worker.role → IsFreshWorker tracker actor worker
fresh-worker worker fresh same none role = record {
  view = ap (λ (p : PassData). p.view) same ∙ fresh.view;
  made = none;
  role = role;
}

-- one such worker more
pub one-fresh : {tracker : TrackerData} (workers : List Worker) {worker : Worker} {actor : ℕ}
    → AreFreshWorkers tracker workers → actor ≡ length workers → IsFreshWorker tracker actor worker
    → AreFreshWorkers tracker (workers ++ worker ∷ [])
one-fresh {tracker} workers {worker} {actor} each last its k one at =
    elim (get-either workers (worker ∷ []) k one at) [
      | inl there ↦ each k one there.0
      | inr new ↦ at_end new.0 new.1 new.2
    ]
  where
    at_end : (j : ℕ) → slice_get (worker ∷ []) j ≡ Some one → k ≡ length workers + j → IsFreshWorker tracker k one
    at_end zero h e =
        let same : worker ≡ one = cc in
        let here : actor ≡ k = omega (arith, last, e) in
        subst (λ (w : Worker). IsFreshWorker tracker k w) same
        (subst (λ a. IsFreshWorker tracker a worker) here its)
    at_end (suc j) h e = cc

-- what stands between two parts of a list
pub at-seam : {A : Type 0} {all : List A} (before : List A) {rest later : List A} {x : A} → all ≡ before ++ rest
    → rest ≡ x ∷ later → slice_get all (length before) ≡ Some x
at-seam before {later} {x} whole next =
    ap (λ xs. slice_get xs (length before)) (whole ∙ ap (λ xs. before ++ xs) next) ∙ get-seam before later x

-- the passes of workers are of their tracker
pub all-of : {input : Contents} {tracker : TrackerData} {workers : List Worker} {passes : List PassData}
    → AreWorkersOf input tracker workers → passes ≡ map (λ (worker : Worker). worker.pass) workers
    → All (IsPassOf tracker) passes
all-of {tracker} {workers} {passes} are same k d low =
    let pass = λ (w : Worker). w.pass in
    let short : k < length workers = omega (arith, low, ap length same, length-map workers pass) in
    let found = slice_get-within workers k short in
    let here : get_or passes k d ≡ found.0.pass =
    ap (λ ps. get_or ps k d) same ∙ (get_or-map pass workers k found.0 d short
    ∙ ap pass (at-some workers k found.1).1) in
    subst (IsPassOf tracker) (sym here) (are.each k found.0 found.1).0.of

-- a list put back into its place
pub put-back : {A : Type 0} (xs ys : List A) {n : ℕ} → n ≡ length ys → length xs ≡ length ys
    → take n (xs ++ drop (length xs) ys) ≡ xs
put-back xs ys {n} whole same =
    rw (whole, ← same, take-append_seam)

-- a worker that a call has changed
pub changed : {input : Contents} {tracker : TrackerData} {argument last old new : Worker} {k : ℕ} → argument ≡ old
    → last ≡ new → actor_of old.pass ≡ k → IsWorkerOf input tracker last × (actor_of last.pass ≡ actor_of argument.pass)
    → IsWorkerOf input tracker new × (actor_of new.pass ≡ k)
changed {input} {tracker} is left actor now = (
  subst (IsWorkerOf input tracker) left now.0,
  sym (ap (λ (w : Worker). actor_of w.pass) left)
      ∙ (now.1 ∙ (ap (λ (w : Worker). actor_of w.pass) is ∙ actor)),
)

-- a new tracker is set for its input
pub new-set : {input : Contents} {plan : PlanData} {setup : Setup} {homes : List ℕ}
    → BelongTogether input plan plan.distances → homes ≡ input.homes
    → setup ≡ setup_of plan homes (length homes + input.callers) → IsSetFor input setup plan plan.distances
new-set {homes} together same is = record {
  together = together;
  plan_is = sym (ap (λ (s : Setup). s.plan) is);
  homes = ap (λ (s : Setup). s.homes) is ∙ same;
  actors = omega (arith, ap (λ (s : Setup). s.actors) is, ap length same, together.valid.scripts);
}
