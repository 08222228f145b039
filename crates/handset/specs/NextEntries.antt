-- The write of an entry that has another of its kind behind it, as the write that comes next: for
-- loops that make many such writes of what is at hand.
-- Key law: `entry_writes_are_next` (`EntryWritesAreNext`).
use Rattle.std.specs.Prelude.{◌≡◌, ℕ, suc, List, [], Some, slice_get}
use Rattle.entry_word.specs.Addresses.{address_word}
use Rattle.directory.specs.Courses.{Step}
use Rattle.directory.specs.Writes.{visits}
use Rattle.region_plan.specs.Kept.{IsKept}
use Rattle.region_plan.specs.Plan.{PlanData}
use Rattle.region_plan.specs.Settings.{setting_of}
use Rattle.handset.specs.Entries.{EntryWrite, at_entry, entry_put, entry_write}
use Rattle.handset.specs.Condition.{GoesWith, HandsetData}
use Rattle.handset.specs.StepWrites.{due}
use Rattle.handset.specs.Stands.{StandsForSteps}
use Rattle.handset.specs.declared.entries.EntryStage.{EntryStage}
use Rattle.handset.specs.declared.entries.Erasures.{Erasures}
use Rattle.handset.specs.declared.entries.Renewals.{Renewals}

-- the write of an entry is the one that comes next, and leaves the handset at the entry behind it
pub record IsNextEntry (plan : PlanData) (handset : HandsetData) (at : EntryStage)
    (write : EntryWrite) : Type 0 where
  pub due : due (setting_of plan []) (at_entry handset at) ≡ Some (entry_put handset.sub write)
  pub visit : (starts : List ℕ) (steps : List Step) (made : ℕ)
      → StandsForSteps (setting_of plan starts) (at_entry handset at) steps made
      → slice_get (visits (setting_of plan starts) handset.sub steps) made
      ≡ Some (entry_put handset.sub write)
  pub stands : (starts : List ℕ) (steps : List Step) (made : ℕ)
      → StandsForSteps (setting_of plan starts) (at_entry handset at) steps made
      → StandsForSteps (setting_of plan starts) (at_entry handset write.next) steps (suc made)
  pub goes : GoesWith plan (at_entry handset write.next)

-- so it is over each plan
abbrev pub EntryWritesAreNext : Type 0
EntryWritesAreNext =
    (plan : PlanData) (handset : HandsetData) (at : EntryStage) (write : EntryWrite) → IsKept plan
    → GoesWith plan (at_entry handset at)
    → entry_write (setting_of plan []) handset at ≡ Some write
    → IsNextEntry plan handset at write

-- the new addresses of a move from a level on, up to below the last level that it renews
abbrev pub renewals_from : HandsetData → ℕ → Renewals
renewals_from handset level =
    record {
      level = level;
      end = handset.last.renewed;
      node = handset.last.to;
      word = address_word
          (Some (record { number = handset.last.number; node = handset.last.to }));
    }

-- the erasures of a move from a level on, up to the last level that it renews
abbrev pub erasures_from : HandsetData → ℕ → Erasures
erasures_from handset level =
    record { level = level; last = handset.last.renewed; node = handset.last.to }
