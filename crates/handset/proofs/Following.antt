-- The write of an entry that has another of its kind behind it: it is the one that comes next, and what follows it.
use Rattle.std.proofs.Common.{◌≡◌, [], Some, arith}
use Rattle.std.specs.Prelude.{IfSome}
use Rattle.region_plan.specs.Plan.{PlanData}
use Rattle.region_plan.specs.Settings.{setting_of}
use Rattle.handset.specs.Entries.{EntryWrite, at_entry, entry_put, entry_write, stage_at}
use Rattle.handset.specs.Condition.{GoesWith, HandsetData}
use Rattle.handset.specs.StepWrites.{after_write, due}
use Rattle.handset.specs.declared.entries.EntryStage.{EntryStage}
use Rattle.handset.specs.declared.entries.EntryStage.TheVariants as entries
use Rattle.handset.proofs.Going.{goes-late}
use Rattle.handset.proofs.Lists.{first-inside}

-- a write comes next, behind it the handset is at the next one, and goes with its plan
pub record IsNextEntry (plan : PlanData) (handset : HandsetData) (at : EntryStage) (write : EntryWrite) : Type 0 where
  pub due : due (setting_of plan []) (at_entry handset at) ≡ Some (entry_put handset.sub write)
  pub after : at_entry handset write.next ≡ after_write (setting_of plan []) (at_entry handset at) (stage_at at)
  pub goes : GoesWith plan (at_entry handset write.next)

pub next-entry : {plan : PlanData} (handset : HandsetData) (at : EntryStage) → GoesWith plan (at_entry handset at)
    → IfSome (entry_write (setting_of plan []) handset at) (IsNextEntry plan handset at)
next-entry {plan} handset (entries.Renewing level) goes = grind (arith, goes-late)
next-entry {plan} handset (entries.Erasing level) goes = grind (arith, first-inside, goes-late)
