use Rattle.std.proofs.Common.{◌+◌, ◌-◌, ◌<◌, ◌≤◌, ℕ, length}
use Rattle.std.specs.Prelude.{vec_capacity}
use Rattle.handset.specs.Entries.{at_entry}
use Rattle.handset.specs.Condition.{GoesWith}
use Rattle.handset.specs.declared.entries.EntryStage.TheVariants as entries
use Rattle.machine.specs.Owed.{IsAhead}
use Rattle.machine.proofs.ahead.push_renewals.Given as goal

abbrev pub invariant-loop-level : goal.invariant-loop-level
invariant-loop-level l = record {
  goes : GoesWith l.plan (at_entry l.handset (entries.Renewing l.level));
  fits : length l.ahead.items + (l.last - l.level) ≤ vec_capacity l.ahead;
  ahead : (subs : ℕ) → l.fn.handset.sub < subs
      → IsAhead l.plan subs l.fn.handset (at_entry l.handset (entries.Renewing l.level)) l.fn.ahead l.ahead;
}
