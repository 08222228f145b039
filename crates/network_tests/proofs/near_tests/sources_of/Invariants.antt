use Rattle.std.specs.Prelude.{◌<◌, All}
use Rattle.network_tests.proofs.near_tests.sources_of.Given as goal

abbrev pub invariant-loop-place : goal.invariant-loop-place
invariant-loop-place l = All (λ v. v < l.n) l.sources.items
