-- The workers of a run that is played by hand.
use Rattle.std.proofs.Common.{◌≡◌, ℕ, zero, suc, ◌≤◌, List, [], ◌∷◌, get_or, refl, sym, ap, ◌∙◌, subst, arith}
use Rattle.std.specs.Prelude.{Some, slice_get, slice_set}
use Rattle.distances.specs.Table.{DistanceTable}
use Rattle.net_reader.specs.Input.{Contents}
use Rattle.region_plan.specs.Plan.{PlanData}
use Rattle.station.specs.Passes.{IsFree, PassData, TrackerData, actor_of}
use Rattle.runner.specs.Roles.{IsSetFor}
use Rattle.runner.specs.Runs.{AreWorkersOf}
use Rattle.runner.specs.Workers.{HasGoneOn, IsWorkerOf}
use Rattle.runner.specs.declared.worker.Worker.{Worker}

pub two-first : (all rest later : List Worker) (first second : Worker) → all ≡ first ∷ rest → rest ≡ second ∷ later
    → (slice_get all 0 ≡ Some first) × (slice_get all 1 ≡ Some second)
two-first all rest later first second whole next = (
  ap (λ ws. slice_get ws 0) whole,
  ap (λ ws. slice_get ws 1) (whole ∙ ap (λ ws. first ∷ ws) next),
)

-- the first worker has played
pub first-played : (input : Contents) (tracker : TrackerData) (workers : List Worker) (old new : Worker) (held : ℕ)
    → AreWorkersOf input tracker workers → slice_get workers 0 ≡ Some old → HasGoneOn input tracker old new held
    → AreWorkersOf input tracker (slice_set workers 0 new)
first-played input tracker [] old new held are first gone = cc
first-played input tracker (w ∷ ws) old new held are first gone = record {
  count = are.count;
  each = at;
}
  where
    at : (k : ℕ) (worker : Worker) → slice_get (new ∷ ws) k ≡ Some worker
        → IsWorkerOf input tracker worker × (actor_of worker.pass ≡ k)
    at zero worker is =
        let same : new ≡ worker = cc in
        subst (λ (x : Worker). IsWorkerOf input tracker x × (actor_of x.pass ≡ 0)) same
        (gone.worker, gone.same.actor ∙ (are.each 0 old first).1)
    at (suc k) worker is = are.each (suc k) worker is

-- the pass of a worker is free
pub pass-free : (input : Contents) (tracker : TrackerData) (worker : Worker) (pass : PassData)
    → IsWorkerOf input tracker worker → pass ≡ worker.pass → IsFree tracker 0 pass
pass-free input tracker worker pass its same =
    subst (λ (p : PassData). IsFree tracker 0 p) (sym same)
    (record { of = its.of; outside = its.outside; room = omega arith })

-- there is a first worker
pub first-there : (input : Contents) (tracker : TrackerData) (plan : PlanData) (distances : DistanceTable)
    (workers : List Worker) (first : Worker) → IsSetFor input tracker.setup plan distances
    → AreWorkersOf input tracker workers → first ≡ get_or workers 0 first → slice_get workers 0 ≡ Some first
first-there input tracker plan distances [] first set are same =
    let valid = set.together.valid in absurd (omega (arith, are.count, valid.scripts, valid.some_homes))
first-there input tracker plan distances (w ∷ ws) first set are same = ap (λ x. Some x) (sym same)
