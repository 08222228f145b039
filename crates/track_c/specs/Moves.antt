-- What a mover answers: the steps of the directory, put by put.
-- Key laws: `track_mover_new`, `track_mover_move`, `track_mover_switch`, `track_mover_next`,
-- `track_mover_made` and `track_mover_place`, by their clauses.
use Rattle.std.specs.Prelude.{ℕ, Bool, true, false, nat_le, if◌then◌else◌, [], Option, Some, None, Ok, Err}
use Rattle.directory.specs.Writes.{Write, write_key, write_word}
use Rattle.handset.specs.Beginning.{begin_move, handset_at, move_fault, switch_fault}
use Rattle.handset.specs.Condition.{HandsetData}
use Rattle.handset.specs.StepWrites.{after_write, due_at}
use Rattle.handset.specs.declared.fault.MoveFault.{MoveFault}
use Rattle.handset.specs.declared.fault.MoveFault.TheVariants as moves
use Rattle.handset.specs.declared.fault.SwitchFault.{SwitchFault}
use Rattle.handset.specs.declared.fault.SwitchFault.TheVariants as switches
use Rattle.handset.specs.declared.stage.Stage.TheVariants.{Switching}
use Rattle.region_plan.specs.Plan.{PlanData, nodes_of}
use Rattle.region_plan.specs.Settings.{setting_of}
use Rattle.track_c.specs.Faults.{Answer}
use Rattle.track_c.specs.Held.{Held, MoverHeld, PlanHeld, a_mover}
use Rattle.track_c.specs.Told.{cell_told}
use Rattle.track_c.specs.declared.cells.TrackPut.{TrackPut}
use Rattle.track_c.specs.declared.movers.TrackPlace.{TrackPlace}
use Rattle.track_c.specs.declared.fault.Fault.{Fault}
use Rattle.track_c.specs.declared.fault.Fault.TheVariants.{Already, AtRest, IsOff, NoNode, NumbersSpent, SamePlace, UnderWay}

-- why a move doesn't begin
abbrev pub move_refusal : MoveFault → Fault
move_refusal moves.NoNode = NoNode
move_refusal moves.SamePlace = SamePlace
move_refusal moves.UnderWay = UnderWay
move_refusal moves.IsOff = IsOff
move_refusal moves.NumbersSpent = NumbersSpent

-- why a switch doesn't begin
abbrev pub switch_refusal : SwitchFault → Fault
switch_refusal switches.UnderWay = UnderWay
switch_refusal switches.Already = Already

-- the mover of this handset
abbrev pub with_handset : MoverHeld → HandsetData → Held
with_handset mover handset = a_mover (record { plan = mover.plan; handset = handset })

-- a new mover of a subscriber, at rest at its start node
abbrev pub new_mover : ℕ → ℕ → PlanHeld → Answer Held
new_mover sub node held =
    if nat_le (nodes_of held.plan) node then Err NoNode
    else Ok (a_mover (record { plan = held.plan; handset = handset_at held.plan sub node }))

-- a mover whose move begins, unless it is refused
abbrev pub unless_refused : MoverHeld → ℕ → Option MoveFault → Answer Held
unless_refused mover to (Some fault) = Err (move_refusal fault)
unless_refused mover to None =
    Ok (with_handset mover (begin_move (setting_of mover.plan []) mover.handset to))

-- a mover that is told to move
abbrev pub after_move : ℕ → MoverHeld → Answer Held
after_move to mover = unless_refused mover to (move_fault mover.plan mover.handset to)

-- a mover whose switch begins, unless it is refused
abbrev pub unless_same : MoverHeld → Bool → Option SwitchFault → Answer Held
unless_same mover off (Some fault) = Err (switch_refusal fault)
unless_same mover off None =
    Ok (with_handset mover (record mover.handset { stage = Switching off }))

-- a mover that is told to switch off, or on
abbrev pub after_switch : Bool → MoverHeld → Answer Held
after_switch off mover = unless_same mover off (switch_fault mover.handset off)

-- the put that makes a write
abbrev pub put_told : PlanData → ℕ → Write → TrackPut
put_told plan sub write =
    record { cell = cell_told plan (write_key sub write); word = write_word write }

-- the put that comes next, if one is left
abbrev pub due_told : PlanData → ℕ → Option Write → Answer TrackPut
due_told plan sub None = Err AtRest
due_told plan sub (Some write) = Ok (put_told plan sub write)

-- the put that a mover makes next
abbrev pub next_put : MoverHeld → Answer TrackPut
next_put mover =
    due_told mover.plan mover.handset.sub
    (due_at (setting_of mover.plan []) mover.handset mover.handset.stage)

-- a mover that made a put, if one was left
abbrev pub if_due : MoverHeld → Option Write → Answer Held
if_due mover None = Err AtRest
if_due mover (Some write) =
    Ok (with_handset mover
    (after_write (setting_of mover.plan []) mover.handset mover.handset.stage))

-- a mover after the put that came next
abbrev pub after_put : MoverHeld → Answer Held
after_put mover = if_due mover (due_at (setting_of mover.plan []) mover.handset mover.handset.stage)

-- a truth as a number
abbrev pub bit_told : Bool → ℕ
bit_told true = 1
bit_told false = 0

-- where a mover stands
abbrev pub place_told : MoverHeld → Answer TrackPlace
place_told mover =
    Ok (record {
      sub = mover.handset.sub;
      node = mover.handset.place;
      number = mover.handset.number;
      off = bit_told mover.handset.is_off;
    })
