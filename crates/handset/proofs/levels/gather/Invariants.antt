use Rattle.std.proofs.Common.{◌≡◌, ◌<◌, ◌≤◌, ℕ, get_or}
use Rattle.handset.specs.Beginning.{gathered_then}
use Rattle.handset.proofs.levels.gather.Given as goal

abbrev pub invariant-loop-level : goal.invariant-loop-level
invariant-loop-level l = record {
  over : (k : ℕ) → k < l.level → get_or l.gathered k 0 ≡ gathered_then (get_or l.fn.gathered k 0) l.renewed l.weight
      k;
  later : (k : ℕ) → l.level ≤ k → get_or l.gathered k 0 ≡ get_or l.fn.gathered k 0;
}
