-- What an input says of the lines of its report: a slot for each call, by actor and in the order of
-- its script. A move's slot has its number, from where and to where it goes; a switch's its state,
-- its node and its number; a find's its origin and its subscriber.
-- Key call: `check`, which reads the calls of a report by these slots.
use Rattle.std.specs.Prelude.{ℕ, suc, true, false, List, [], ◌∷◌, ◌++◌, slice_index}
use Rattle.directory.specs.Places.{place_after_step}
use Rattle.scripts.specs.Scripts.{step_of}
use Rattle.net_reader.specs.declared.said.Call.{Call}
use Rattle.net_reader.specs.declared.said.Call.TheVariants as calls
use Rattle.net_reader.specs.Input.{Contents}
use Rattle.report_check.specs.declared.slots.Slot.{Slot}
use Rattle.report_check.specs.declared.slots.Slot.TheVariants.{Move, Switch, Find}

-- the slot of a call of an actor that has this place, and has made so many moves
abbrev pub slot_of : ℕ → ℕ → ℕ → Call → Slot
slot_of actor place number (calls.Move to) = Move actor (suc number) place to
slot_of actor place number (calls.Find from sub) = Find actor from sub
slot_of actor place number calls.Off = Switch actor true place number
slot_of actor place number calls.On = Switch actor false place number

-- where an actor is after a call
abbrev pub place_after : ℕ → Call → ℕ
place_after place call =
    (place_after_step (record { node = place; is_off = false }) (step_of call)).node

-- how many moves it has made after a call
abbrev pub number_after : ℕ → Call → ℕ
number_after number (calls.Move to) = suc number
number_after number (calls.Find from sub) = number
number_after number calls.Off = number
number_after number calls.On = number

-- the slots of a script, from a place and a number on
unfoldable pub slots_in : ℕ → ℕ → ℕ → List Call → List Slot
slots_in actor place number [] = []
slots_in actor place number (call ∷ script) =
    slot_of actor place number call
    ∷ slots_in actor (place_after place call) (number_after number call) script

-- the slots of scripts, the first of which is this actor's
unfoldable pub slots_from : List ℕ → ℕ → List (List Call) → List Slot
slots_from homes actor [] = []
slots_from homes actor (script ∷ scripts) =
    slots_in actor (slice_index homes actor) 0 script ++ slots_from homes (suc actor) scripts

-- the slots of an input
abbrev pub slots_for : Contents → List Slot
slots_for contents = slots_from contents.homes 0 contents.scripts
