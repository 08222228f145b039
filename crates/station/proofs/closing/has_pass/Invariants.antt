use Rattle.std.proofs.Common.{◌≡◌, ◌≢◌, ◌<◌, ℕ, Some}
use Rattle.std.specs.Prelude.{slice_get}
use Rattle.station.specs.Passes.{PassData, actor_of}
use Rattle.station.proofs.closing.has_pass.Given as goal

abbrev pub invariant-loop-k : goal.invariant-loop-k
invariant-loop-k l = (j : ℕ) (pass : PassData) → j < l.k → slice_get l.passes j ≡ Some pass → actor_of pass ≢ l.actor
