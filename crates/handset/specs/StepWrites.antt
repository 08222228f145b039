-- The writes of the step under way, and what a handset is after one of them. A handset keeps no
-- list of its writes: its stage tells the next one, and what follows that.
-- Key laws: `Handset::next` gives the next of the directory's visits, and `Handset::made` goes
-- on to the one after it, by their clauses `stands`.
use Rattle.std.specs.Prelude.{ℕ, zero, suc, ◌-◌, Bool, true, false, not, nat_lt, ◌==◌, ◌&&◌, if◌then◌else◌, List, [], ◌∷◌, ◌++◌, Option, Some, None, map, option_map, replicate, drop, length, slice_set, slice_index, slice_index_or}
use Rattle.node_set.specs.Ascending.{sift}
use Rattle.entry_word.specs.declared.mark.PresenceMark.TheVariants.{Empty, Here, Gone, Coming as ComingMark, Off}
use Rattle.entry_word.specs.declared.visit.Visit.{Visit}
use Rattle.directory.specs.Settings.{Setting}
use Rattle.directory.specs.Writes.{Write, mark_at, entry_at, visit_of, new_address, numbers_from}
use Rattle.handset.specs.declared.stage.Stage.{Stage}
use Rattle.handset.specs.declared.stage.Stage.TheVariants.{Resting, Coming, Renewing, Committing, Confirming, Erasing, Purging, Switching}
use Rattle.handset.specs.Condition.{HandsetData}

-- the mark of a subscriber that switches
abbrev pub switch_mark : HandsetData → Bool → Write
switch_mark handset off =
    mark_at handset.place (if off then Off handset.number else Here handset.number)

-- the erasure of the old address of a level
abbrev pub erasure : Setting → HandsetData → ℕ → Write
erasure setting handset level =
    entry_at level (setting.home level (slice_index handset.addresses level)) None

-- whether the old address of a level is erased: another home has the new one
abbrev pub is_old : Setting → HandsetData → ℕ → Bool
is_old setting handset level =
    not (setting.home level (slice_index handset.addresses level) == setting.home level
    handset.last.to)

-- whether a node is on the trail, but isn't the new one
abbrev pub is_behind : HandsetData → ℕ → Bool
is_behind handset node = slice_index_or handset.trail node false && not (node == handset.last.to)

-- the purge from a node on
abbrev pub purge_from : Setting → HandsetData → ℕ → List Write
purge_from setting handset node =
    if handset.last.renewed == setting.top
    then map (λ x. mark_at x Empty) (sift (is_behind handset) node (setting.nodes - node))
    else []

-- what is written from the erasure of a level on
abbrev pub erase_from : Setting → HandsetData → ℕ → List Write
erase_from setting handset level =
    map (erasure setting handset) (sift (is_old setting handset) level
    (suc handset.last.renewed - level))
    ++ purge_from setting handset 0

-- the confirm and what follows it
abbrev pub confirm : Setting → HandsetData → List Write
confirm setting handset =
    mark_at handset.last.to (Here handset.last.number) ∷ erase_from setting handset 0

-- the commit and what follows it
abbrev pub commit : Setting → HandsetData → List Write
commit setting handset =
    mark_at handset.last.from (Gone handset.last.number handset.last.to) ∷ confirm setting handset

-- the new addresses from a level on, and the commit with what follows it
abbrev pub renew_from : Setting → HandsetData → ℕ → List Write
renew_from setting handset level =
    map (new_address setting handset.last) (numbers_from level (suc handset.last.renewed - level))
    ++ commit setting handset

-- the write that comes next at a stage, and all that are left of the step
abbrev pub due_at : Setting → HandsetData → Stage → Option Write
due_at setting handset Resting = None
due_at setting handset Coming =
    Some (mark_at handset.last.to (ComingMark handset.last.number handset.last.from))
due_at setting handset (Renewing level) = Some (new_address setting handset.last level)
due_at setting handset Committing =
    Some (mark_at handset.last.from (Gone handset.last.number handset.last.to))
due_at setting handset Confirming = Some (mark_at handset.last.to (Here handset.last.number))
due_at setting handset (Erasing level) = Some (erasure setting handset level)
due_at setting handset (Purging node) = Some (mark_at node Empty)
due_at setting handset (Switching off) = Some (switch_mark handset off)

-- what is left to write at a stage
abbrev pub left_at : Setting → HandsetData → Stage → List Write
left_at setting handset Resting = []
left_at setting handset Coming =
    mark_at handset.last.to (ComingMark handset.last.number handset.last.from)
    ∷ renew_from setting handset 0
left_at setting handset (Renewing level) =
    new_address setting handset.last level ∷ renew_from setting handset (suc level)
left_at setting handset Committing = commit setting handset
left_at setting handset Confirming = confirm setting handset
left_at setting handset (Erasing level) =
    erasure setting handset level ∷ erase_from setting handset (suc level)
left_at setting handset (Purging node) =
    mark_at node Empty
    ∷ map (λ x. mark_at x Empty) (sift (is_behind handset) (suc node) (setting.nodes - suc node))
left_at setting handset (Switching off) = switch_mark handset off ∷ []

-- the visit that comes next
abbrev pub due : Setting → HandsetData → Option Visit
due setting handset = option_map (visit_of handset.sub) (due_at setting handset handset.stage)

-- of some numbers from one on, the first that passes the test
abbrev pub first_with : (ℕ → Bool) → ℕ → ℕ → Option ℕ
first_with test x zero = None
first_with test x (suc k) = if test x then Some x else first_with test (suc x) k

-- the stage at which the trail is purged at a node, if one is left
abbrev pub purging_at : Option ℕ → Stage
purging_at None = Resting
purging_at (Some node) = Purging node

-- the stage at which the trail is purged from a node on
abbrev pub purging_from : Setting → HandsetData → ℕ → Stage
purging_from setting handset node =
    purging_at (first_with (is_behind handset) node (setting.nodes - node))

-- the stage after all erasures
abbrev pub stage_after_erasures : Setting → HandsetData → Stage
stage_after_erasures setting handset =
    if handset.last.renewed == setting.top then purging_from setting handset 0 else Resting

-- the stage at which the address of a level is erased, if one is left
abbrev pub erasing_at : Setting → HandsetData → Option ℕ → Stage
erasing_at setting handset None = stage_after_erasures setting handset
erasing_at setting handset (Some level) = Erasing level

-- the stage at which addresses are erased from a level on
abbrev pub erasing_from : Setting → HandsetData → ℕ → Stage
erasing_from setting handset level =
    erasing_at setting handset
    (first_with (is_old setting handset) level (suc handset.last.renewed - level))

-- a handset whose move is over: the levels that it renewed have the new node's address, and the
-- trail has the new node, alone where the top level was renewed
abbrev pub settle : Setting → HandsetData → HandsetData
settle setting handset =
    record handset {
      stage = Resting;
      addresses = replicate (suc handset.last.renewed) handset.last.to
          ++ drop (suc handset.last.renewed) handset.addresses;
      trail = slice_set
          (if handset.last.renewed == setting.top then replicate (length handset.trail) false
          else handset.trail)
          handset.last.to true;
    }

-- a handset that goes on to a stage behind the confirm
abbrev pub go_on : Setting → HandsetData → Stage → HandsetData
go_on setting handset Resting = settle setting handset
go_on setting handset Coming = record handset { stage = Coming }
go_on setting handset (Renewing level) = record handset { stage = Renewing level }
go_on setting handset Committing = record handset { stage = Committing }
go_on setting handset Confirming = record handset { stage = Confirming }
go_on setting handset (Erasing level) = record handset { stage = Erasing level }
go_on setting handset (Purging node) = record handset { stage = Purging node }
go_on setting handset (Switching off) = record handset { stage = Switching off }

-- a handset after the write that came next at this stage
abbrev pub after_write : Setting → HandsetData → Stage → HandsetData
after_write setting handset Resting = handset
after_write setting handset Coming = record handset { stage = Renewing 0 }
after_write setting handset (Renewing level) =
    record handset {
      stage = if nat_lt level handset.last.renewed then Renewing
          (suc level) else Committing;
    }
after_write setting handset Committing =
    record handset { place = handset.last.to; number = handset.last.number; stage = Confirming }
after_write setting handset Confirming =
    go_on setting handset (erasing_from setting handset 0)
after_write setting handset (Erasing level) =
    go_on setting handset (erasing_from setting handset (suc level))
after_write setting handset (Purging node) =
    go_on setting handset (purging_from setting handset (suc node))
after_write setting handset (Switching off) = record handset { is_off = off; stage = Resting }
