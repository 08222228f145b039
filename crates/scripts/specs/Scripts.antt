-- The scripts of an input, as the directory reads them: the calls of a subscriber are steps, and
-- those of a caller are finds. A valid input has no other calls. And how many visits they have at
-- most.
-- Key laws: `scripts_are_valid` (the scripts of a valid input are valid), `visits_are_few` (no
-- history of them has a visit more than `most_visits` says).
use Rattle.std.specs.Prelude.{◌≡◌, ℕ, List, map, take, drop, length, sum_by}
use Rattle.directory.specs.Settings.{Setting}
use Rattle.directory.specs.Courses.{Step, move_to, switch_off, switch_on}
use Rattle.directory.specs.Writes.{most_writes}
use Rattle.directory.specs.Finds.{FindCall, most_looks}
use Rattle.directory.specs.Orders.{Scripts}
use Rattle.net_reader.specs.declared.said.Call.{Call}
use Rattle.net_reader.specs.declared.said.Call.TheVariants as calls
use Rattle.net_reader.specs.Input.{Contents}

-- the step that a subscriber's call is; a find is no step
abbrev pub step_of : Call → Step
step_of (calls.Move to) = move_to to
step_of (calls.Find from sub) = switch_on
step_of calls.Off = switch_off
step_of calls.On = switch_on

-- the find that a caller's call is; a move or a switch is no find
abbrev pub find_of : Call → FindCall
find_of (calls.Move to) = record { from = 0; sub = 0 }
find_of (calls.Find from sub) = record { from = from; sub = sub }
find_of calls.Off = record { from = 0; sub = 0 }
find_of calls.On = record { from = 0; sub = 0 }

-- the scripts of an input
abbrev pub scripts_of : Contents → Scripts
scripts_of input =
    record {
      steps = map (map step_of) (take (length input.homes) input.scripts);
      finds = map (map find_of) (drop (length input.homes) input.scripts);
    }

-- a setting has the nodes of an input, and its subscribers
pub record IsSettingOf (input : Contents) (setting : Setting) : Type 0 where
  pub nodes : setting.nodes ≡ input.nodes
  pub starts : setting.starts ≡ input.homes

-- no call has a visit more than these
abbrev pub most_of : Setting → Call → ℕ
most_of setting (calls.Move to) = most_writes setting
most_of setting (calls.Find from sub) = most_looks setting from
most_of setting calls.Off = 1
most_of setting calls.On = 1

-- no script has a visit more than these
abbrev pub most_in : Setting → List Call → ℕ
most_in setting script = sum_by (most_of setting) script

-- and no scripts together
abbrev pub most_visits : Setting → List (List Call) → ℕ
most_visits setting scripts = sum_by (most_in setting) scripts
