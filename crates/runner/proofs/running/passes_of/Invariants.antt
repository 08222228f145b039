use Rattle.std.proofs.Common.{◌≡◌, ◌++◌, map}
use Rattle.std.specs.Vec.Iter.{into_iter_items}
use Rattle.runner.specs.declared.worker.Worker.{Worker}
use Rattle.runner.proofs.running.passes_of.Given as goal

abbrev pub invariant-workers : goal.invariant-workers
invariant-workers l = record {
  pushed : l.passes.items ≡ map (λ (worker : Worker). worker.pass) l.yielded;
  all : l.fn.workers.items ≡ l.yielded ++ into_iter_items l.worker-iterator;
}
