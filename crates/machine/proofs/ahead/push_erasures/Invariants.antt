use Rattle.std.proofs.Common.{◌≡◌, ◌-◌, ◌<◌, ℕ, suc, [], slice_index}
use Rattle.handset.specs.Entries.{at_entry}
use Rattle.handset.specs.Condition.{GoesWith}
use Rattle.handset.specs.StepWrites.{first_with, is_old}
use Rattle.handset.specs.declared.entries.EntryStage.TheVariants as entries
use Rattle.region_plan.specs.Settings.{setting_of}
use Rattle.visit_log.specs.Homes.{home_place}
use Rattle.machine.specs.Owed.{IsAhead}
use Rattle.machine.proofs.ahead.push_erasures.Given as goal

abbrev pub invariant-loop-above : goal.invariant-loop-above
invariant-loop-above l = record {
  low : l.at < l.above;
  goes : GoesWith l.plan (at_entry l.fn.handset (entries.Erasing l.at));
  place : l.place ≡ home_place l.plan (slice_index l.fn.handset.addresses l.at) l.at;
  next : first_with (is_old (setting_of l.plan []) l.fn.handset) (suc l.at) (suc l.fn.handset.last.renewed - suc l.at)
      ≡ first_with (is_old (setting_of l.plan []) l.fn.handset) l.above (suc l.fn.handset.last.renewed - l.above);
  ahead : (subs : ℕ) → l.fn.handset.sub < subs
      → IsAhead l.plan subs l.fn.handset (at_entry l.fn.handset (entries.Erasing l.at)) l.fn.ahead l.ahead;
}
