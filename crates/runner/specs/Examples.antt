-- What the refused workers, plays and runs speak of: inputs over the line of four nodes, with one
-- subscriber that starts at node 3 and one caller, and a tracker that was made for them.
-- Key laws: `wrong_workers`, `wrong_plays`, `wrong_runs`.
use Rattle.std.specs.Prelude.{◌≡◌, ℕ, [], ◌∷◌}
use Rattle.directory.specs.Histories.{History}
use Rattle.directory.specs.Orders.{script_visits}
use Rattle.entry_word.specs.declared.visit.Act.TheVariants.{Census}
use Rattle.entry_word.specs.declared.visit.Visit.{Visit}
use Rattle.net_reader.specs.Input.{Contents}
use Rattle.net_reader.specs.declared.said.Call.TheVariants as calls
use Rattle.plan_laws.specs.Examples.{line_of_four}
use Rattle.scripts.specs.Scripts.{scripts_of}
use Rattle.station.specs.Setup.{Setup, setting_in}
use Rattle.runner.specs.declared.worker.Worker.{Worker}

-- an input in which nobody has a call
abbrev pub idle_input : Contents
idle_input =
    record {
      format = 1;
      nodes = 4;
      k = 2;
      edges = [];
      homes = 3 ∷ [];
      callers = 1;
      scripts = [] ∷ [] ∷ [];
      order = [];
    }

-- and one in which the subscriber is switched off
abbrev pub switching_input : Contents
switching_input = record idle_input { format = 2; scripts = (calls.Off ∷ []) ∷ [] ∷ [] }

-- and one in which it moves to the node beside it
abbrev pub moving_input : Contents
moving_input = record idle_input { scripts = (calls.Move 2 ∷ []) ∷ [] ∷ [] }

-- what a tracker for them is told
abbrev pub line_setup : Setup
line_setup = record { plan = line_of_four; homes = 3 ∷ []; actors = 2 }

-- the visits of the subscriber that moves: at node 2, at node 0, at node 3, and more
abbrev pub moving_visits : History
moving_visits = script_visits (setting_in line_setup) (scripts_of moving_input) 0

-- an actor counts who is at node 0
abbrev pub count_by : ℕ → Visit
count_by actor = record { actor = actor; act = Census 0 }

-- a worker of an actor whose pass has seen these visits
pub record HasSeen (worker : Worker) (actor : ℕ) (seen : History) : Type 0 where
  pub low : worker.pass.view.low ≡ actor
  pub seen_is : worker.pass.view.seen ≡ seen
