-- The entries that a handset writes, one behind the other: where it is among them, apart from it,
-- and the write of each that has another of its kind behind it. New addresses and erasures are two
-- kinds. Key law: `entry_writes_are_next` (the write at an entry is the one that comes next, and
-- its
-- `next` is where the handset is then).
use Rattle.std.specs.Prelude.{ℕ, suc, ◌-◌, nat_lt, if◌then◌else◌, Option, Some, None, option_map, slice_index}
use Rattle.entry_word.specs.Addresses.{address_word}
use Rattle.entry_word.specs.declared.visit.Act.TheVariants.{Put}
use Rattle.entry_word.specs.declared.visit.Key.TheVariants.{Entry}
use Rattle.entry_word.specs.declared.visit.Visit.{Visit}
use Rattle.directory.specs.Settings.{Setting}
use Rattle.handset.specs.Condition.{HandsetData}
use Rattle.handset.specs.StepWrites.{first_with, is_old}
use Rattle.handset.specs.declared.entries.EntryStage.{EntryStage}
use Rattle.handset.specs.declared.entries.EntryStage.TheVariants as entries
use Rattle.handset.specs.declared.stage.Stage.{Stage}
use Rattle.handset.specs.declared.stage.Stage.TheVariants.{Renewing, Erasing}

-- the write of an entry, by the level and the cluster of its cell and the word, and the entry that
-- is written next
pub record EntryWrite : Type 0 where
  pub level : ℕ
  pub cluster : ℕ
  pub word : ℕ
  pub next : EntryStage

-- a subscriber's write of an entry
abbrev pub entry_put : ℕ → EntryWrite → Visit
entry_put sub write =
    record { actor = sub; act = Put (Entry write.level write.cluster sub) write.word }

-- the stage at an entry
abbrev pub stage_at : EntryStage → Stage
stage_at (entries.Renewing level) = Renewing level
stage_at (entries.Erasing level) = Erasing level

-- a handset at an entry
abbrev pub at_entry : HandsetData → EntryStage → HandsetData
at_entry handset at = record handset { stage = stage_at at }

-- the new address of a level, if one of the level above comes next
abbrev pub renewal_write : Setting → HandsetData → ℕ → Option EntryWrite
renewal_write setting handset level =
    if nat_lt level handset.last.renewed then Some (record {
      level = level;
      cluster = setting.home level handset.last.to;
      word = address_word
          (Some (record { number = handset.last.number; node = handset.last.to }));
      next = entries.Renewing (suc level);
    }) else None

-- the erasure of the old address of a level, with the level of the one behind it
abbrev pub erasure_to : Setting → HandsetData → ℕ → ℕ → EntryWrite
erasure_to setting handset level next =
    record {
      level = level;
      cluster = setting.home level (slice_index handset.addresses level);
      word = address_word None;
      next = entries.Erasing next;
    }

-- the erasure of the old address of a level, if one of a level above comes next
abbrev pub erasure_write : Setting → HandsetData → ℕ → Option EntryWrite
erasure_write setting handset level =
    option_map (erasure_to setting handset level) (first_with (is_old setting handset) (suc level)
    (suc handset.last.renewed - suc level))

-- the write of an entry, if another of its kind comes next
abbrev pub entry_write : Setting → HandsetData → EntryStage → Option EntryWrite
entry_write setting handset (entries.Renewing level) = renewal_write setting handset level
entry_write setting handset (entries.Erasing level) = erasure_write setting handset level
