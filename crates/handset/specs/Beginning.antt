-- How a handset begins a step: why it doesn't, and what it is then.
-- Key laws: `Handset::begin` and `switch`, by their clauses `faults` and `exact`.
use Rattle.std.specs.Prelude.{ℕ, suc, ◌+◌, ◌-◌, ◌^◌, Bool, true, false, not, nat_le, ◌==◌, if◌then◌else◌, List, Option, Some, None, map, length, replicate, slice_index, slice_set}
use Rattle.directory.specs.Settings.{Setting, levels}
use Rattle.directory.specs.Courses.{highest, Move}
use Rattle.directory.specs.Writes.{numbers_from}
use Rattle.region_plan.specs.Plan.{PlanData, levels_of, nodes_of}
use Rattle.handset.specs.declared.stage.Stage.{Stage}
use Rattle.handset.specs.declared.stage.Stage.TheVariants.{Resting, Coming, Renewing, Committing, Confirming, Erasing, Purging, Switching}
use Rattle.handset.specs.declared.fault.MoveFault.{MoveFault}
use Rattle.handset.specs.declared.fault.MoveFault.TheVariants.{NoNode, SamePlace, UnderWay, IsOff, NumbersSpent}
use Rattle.handset.specs.declared.fault.SwitchFault.{SwitchFault}
use Rattle.handset.specs.declared.fault.SwitchFault.TheVariants.{UnderWay as StillUnderWay, Already}
use Rattle.handset.specs.Condition.{HandsetData}

-- whether no write is left at a stage
abbrev pub is_rest : Stage → Bool
is_rest Resting = true
is_rest Coming = false
is_rest (Renewing level) = false
is_rest Committing = false
is_rest Confirming = false
is_rest (Erasing level) = false
is_rest (Purging node) = false
is_rest (Switching off) = false

-- whether the write that comes next at a stage commits the move
abbrev pub is_committing : Stage → Bool
is_committing Resting = false
is_committing Coming = false
is_committing (Renewing level) = false
is_committing Committing = true
is_committing Confirming = false
is_committing (Erasing level) = false
is_committing (Purging node) = false
is_committing (Switching off) = false

-- why a move to a node doesn't begin, if it doesn't
abbrev pub move_fault : PlanData → HandsetData → ℕ → Option MoveFault
move_fault plan handset to =
    if nat_le (nodes_of plan) to then Some NoNode
    else if to == handset.place then Some SamePlace
    else if not (is_rest handset.stage) then Some UnderWay
    else if handset.is_off then Some IsOff
    else if handset.number == 2 ^ 32 - 1 then Some NumbersSpent
    else None

-- whether two states are the same
abbrev pub same_state : Bool → Bool → Bool
same_state true on = on
same_state false on = not on

-- why a switch doesn't begin, if it doesn't
abbrev pub switch_fault : HandsetData → Bool → Option SwitchFault
switch_fault handset off =
    if not (is_rest handset.stage) then Some StillUnderWay
    else if same_state handset.is_off off then Some Already
    else None

-- the highest level that a weight renews, by what the levels have gathered
abbrev pub renewal_in : Setting → List ℕ → ℕ → ℕ
renewal_in setting gathered weight =
    highest (λ level. nat_le (setting.threshold level) (slice_index gathered level + weight))
    (levels setting)

-- what a level has gathered, when a move of this weight renews the levels up to one
abbrev pub gathered_then : ℕ → ℕ → ℕ → ℕ → ℕ
gathered_then gathered renewed weight level =
    if nat_le level renewed then 0 else gathered + weight

-- what all levels have gathered then
abbrev pub gathered_after : List ℕ → ℕ → ℕ → List ℕ
gathered_after gathered renewed weight =
    map (λ level. gathered_then (slice_index gathered level) renewed weight level)
    (numbers_from 0 (length gathered))

-- a handset that begins a move to a node
abbrev pub journey_to : Setting → HandsetData → ℕ → Move
journey_to setting handset to =
    record {
      number = suc handset.number;
      from = handset.place;
      to = to;
      weight = setting.distance handset.place to;
      renewed = renewal_in setting handset.gathered (setting.distance handset.place to);
    }

-- a handset that has begun its move to a node
abbrev pub begin_move : Setting → HandsetData → ℕ → HandsetData
begin_move setting handset to =
    let move : Move = journey_to setting handset to in
    record handset {
      stage = Coming;
      last = move;
      gathered = gathered_after handset.gathered move.renewed move.weight;
    }

-- a handset at rest at its start
abbrev pub handset_at : PlanData → ℕ → ℕ → HandsetData
handset_at plan sub home =
    record {
      sub = sub;
      place = home;
      number = 0;
      is_off = false;
      stage = Resting;
      last = record { number = 0; from = home; to = home; weight = 0; renewed = 0 };
      addresses = replicate (levels_of plan) home;
      gathered = replicate (levels_of plan) 0;
      trail = slice_set (replicate (nodes_of plan) false) home true;
    }
