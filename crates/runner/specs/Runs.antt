-- What becomes of an input whose actors were served on a tracker: there is one history of all their
-- visits, and the outcome is the directory's own under the order of its actors.
-- Key laws: `finish_run` (by its clause `finished`) and `run_workers` (`outcome`).
use Rattle.std.specs.Prelude.{◌≡◌, ℕ, ◌<◌, ◌≤◌, List, [], map, length, Some, slice_get}
use Rattle.entry_word.specs.declared.visit.Visit.{Visit}
use Rattle.directory.specs.Settings.{Setting}
use Rattle.directory.specs.Histories.{History, IsFront, own}
use Rattle.directory.specs.Legal.{IsLegal}
use Rattle.directory.specs.Orders.{IsPlayed, Scripts, history_of}
use Rattle.directory.specs.Outcomes.{Outcome, outcome_of}
use Rattle.net_reader.specs.Input.{Contents}
use Rattle.scripts.specs.Scripts.{scripts_of}
use Rattle.station.specs.Passes.{TrackerData, actor_of}
use Rattle.station.specs.Setup.{Setup, setting_in, subs_in}
use Rattle.runner.specs.Workers.{IsFreshWorker, IsWorkerOf}
use Rattle.runner.specs.declared.worker.Worker.{Worker}

-- workers of a tracker, one for each actor of an input, in ascending number
pub record AreWorkersOf (input : Contents) (tracker : TrackerData)
    (workers : List Worker) : Type 0 where
  pub count : length workers ≡ length input.scripts
  pub each : (k : ℕ) (worker : Worker) → slice_get workers k ≡ Some worker
      → IsWorkerOf input tracker worker × (actor_of worker.pass ≡ k)

-- workers that have done nothing, those of the first actors, in ascending number
abbrev pub AreFreshWorkers : TrackerData → List Worker → Type 0
AreFreshWorkers tracker workers =
    (k : ℕ) (worker : Worker) → slice_get workers k ≡ Some worker → IsFreshWorker tracker k worker

-- the actors of a history, ticket by ticket
abbrev pub actors_of : History → List ℕ
actors_of history = map (λ (visit : Visit). visit.actor) history

-- a run is finished: there is one history, which goes on from what each worker's pass has seen; in
-- it each actor has just the visits of its worker, and nobody else has one; each visit was its
-- actor's next one; and the outcome is that of the order of its actors, whose own history goes on
-- from it
pub record HasFinished (input : Contents) (setup : Setup) (workers : List Worker)
    (outcome : Outcome) : Type 0 where
  pub history : History
  pub seen : (k : ℕ) (worker : Worker) → slice_get workers k ≡ Some worker
      → IsFront worker.pass.view.seen history
  pub visits : (k : ℕ) (worker : Worker) → slice_get workers k ≡ Some worker
      → own k history ≡ own k worker.pass.view.seen
  pub known : (actor : ℕ) → length workers ≤ actor → own actor history ≡ []
  pub legal : (sub : ℕ) → sub < subs_in setup → IsLegal (setting_in setup) sub history
  pub played : IsPlayed (setting_in setup) (scripts_of input) history
  pub outcome_is : outcome
      ≡ outcome_of (setting_in setup) (scripts_of input) (actors_of history)
  pub begins : IsFront history
      (history_of (setting_in setup) (scripts_of input) (actors_of history))

-- an outcome is the directory's own under the whole order that it tells
pub record IsOutcomeOfRun (setting : Setting) (scripts : Scripts)
    (outcome : Outcome) : Type 0 where
  pub order : List ℕ
  pub is : outcome ≡ outcome_of setting scripts order
  pub printed : outcome.order ≡ order
