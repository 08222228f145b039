use Rattle.std.proofs.Common.{◌≡◌, ◌++◌, drop, replicate}
use Rattle.handset.proofs.levels.readdress.Given as goal

abbrev pub invariant-loop-level : goal.invariant-loop-level
invariant-loop-level l = l.addresses ≡ replicate l.level l.to ++ drop l.level l.fn.addresses
