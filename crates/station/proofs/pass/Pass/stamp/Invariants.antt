use Rattle.std.proofs.Common.{◌≡◌, ℕ, length, take}
use Rattle.std.specs.Prelude.{slice_index, if◌then◌else◌}
use Rattle.node_set.specs.Ascending.{has}
use Rattle.directory.specs.Histories.{tickets}
use Rattle.station.specs.Passes.{actor_of}
use Rattle.station.proofs.pass.Pass.stamp.Given as goal

abbrev pub invariant-loop-k : goal.invariant-loop-k
invariant-loop-k l = record {
  size : length l.order ≡ length l.initial.order;
  stamped : (i : ℕ) → slice_index l.order i ≡ (if has i (take l.k (tickets
      (actor_of l.self) l.self.view.seen)) then actor_of l.self else slice_index l.initial.order i);
}
