use Rattle.std.proofs.Common.{◌≡◌, ◌++◌, ℕ, length}
use Rattle.std.specs.Prelude.{Some, slice_get}
use Rattle.std.specs.Vec.Iter.{into_iter_items}
use Rattle.net_reader.specs.Seen.{seen_input}
use Rattle.station.specs.Passes.{AreFresh, TrackerData, actor_of}
use Rattle.runner.specs.Roles.{IsSetFor}
use Rattle.runner.specs.Runs.{AreFreshWorkers}
use Rattle.runner.specs.Workers.{IsWorkerOf}
use Rattle.runner.specs.declared.worker.Worker.{Worker}
use Rattle.runner.proofs.running.workers_of.Given as goal

abbrev pub invariant-passes : goal.invariant-passes
invariant-passes l = record {
  count : length l.workers.items ≡ length l.yielded;
  each : (tracker : TrackerData) → AreFresh tracker l.fn.passes.items
      → IsSetFor (seen_input l.input) tracker.setup l.plan l.plan.distances
      → (k : ℕ) (worker : Worker) → slice_get l.workers.items k ≡ Some worker
      → IsWorkerOf (seen_input l.input) tracker worker × (actor_of worker.pass ≡ k);
  fresh : (tracker : TrackerData) → AreFresh tracker l.fn.passes.items → AreFreshWorkers tracker l.workers.items;
  all : l.fn.passes.items ≡ l.yielded ++ into_iter_items l.pass-iterator;
}
