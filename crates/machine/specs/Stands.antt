-- What the parts of a machine lean on: an input with its plan and its distances, cells that hold
-- what a history leaves, many turns at once, and a walk for the find that a caller is at.
-- Key laws: `Machine::new`, `turn`, `finish` and `outcome`, by their clauses.
use Rattle.std.specs.Prelude.{◌≡◌, refl, ℕ, ◌<◌, List, [], ◌∷◌, ◌++◌, All, Option, Some, None, map, replicate}
use Rattle.distances.specs.Table.{DistanceTable}
use Rattle.directory.specs.Settings.{Setting}
use Rattle.directory.specs.Histories.{History}
use Rattle.directory.specs.Finds.{FindCall, Pursuit, answer_of}
use Rattle.directory.specs.Orders.{IsPlayed, after_turns}
use Rattle.net_reader.specs.Input.{Contents}
use Rattle.net_reader.specs.Valid.{IsValid}
use Rattle.net_reader.specs.declared.said.Call.{Call}
use Rattle.net_reader.specs.declared.said.Call.TheVariants as calls
use Rattle.region_plan.specs.Plan.{PlanData, nodes_of}
use Rattle.region_plan.specs.Settings.{setting_of}
use Rattle.visit_log.specs.Cells.{CellData, GoWith, Hold}
use Rattle.walk.specs.Walks.{IsWalkOver, WalkData, call_of, pursuit_of}
use Rattle.scripts.specs.Scripts.{IsSettingOf, scripts_of}

-- a find begins at one of so many nodes
abbrev pub BeginsInside : ℕ → Call → Type 0
BeginsInside nodes (calls.Move to) = Unit {0}
BeginsInside nodes (calls.Find from sub) = from < nodes
BeginsInside nodes calls.Off = Unit {0}
BeginsInside nodes calls.On = Unit {0}

-- all finds of a script do
abbrev pub BeginInside : ℕ → List Call → Type 0
BeginInside nodes script = All (BeginsInside nodes) script

-- the input is valid, and the plan is one of its nodes, with these distances
pub record BelongTogether (input : Contents) (plan : PlanData)
    (distances : DistanceTable) : Type 0 where
  pub valid : IsValid input
  pub nodes : nodes_of plan ≡ input.nodes
  pub belongs : plan.distances ≡ distances

-- the setting of an input and a plan
abbrev pub setting_over : Contents → PlanData → Setting
setting_over input plan = setting_of plan input.homes

-- it is a setting of the input
abbrev pub over : (input : Contents) (plan : PlanData) (distances : DistanceTable)
    → BelongTogether input plan distances → IsSettingOf input (setting_over input plan)
over input plan distances together = record { nodes = together.nodes; starts = refl }

-- each visit of a history was its actor's next one, and cells hold what the history leaves
pub record Sees (input : Contents) (plan : PlanData) (cells : CellData)
    (history : History) : Type 0 where
  pub played : IsPlayed (setting_over input plan) (scripts_of input) history
  pub goes : GoWith plan cells
  pub hold : Hold plan input.homes cells history

-- so many turns of an actor make as many visits: the cells hold what they leave, and this holds of
-- the history with them
pub record AreMade (input : Contents) (plan : PlanData) (cells : CellData) (history : History)
    (actor count : ℕ) (Holds : History → Type 0) : Type 0 where
  pub visits : History
  pub turns : after_turns (setting_over input plan) (scripts_of input) history
      (replicate count actor) ≡ history ++ visits
  pub actors : map (λ visit. visit.actor) visits ≡ replicate count actor
  pub sees : Sees input plan cells (history ++ visits)
  pub its : Holds (history ++ visits)

-- a walk is that of the first of the finds that are left, at this pursuit, and none where none is
abbrev pub IsWalking : PlanData → List FindCall → Pursuit → Option WalkData → Type 0
IsWalking plan [] pursuit None = Unit {0}
IsWalking plan [] pursuit (Some walk) = ⊥
IsWalking plan (call ∷ later) pursuit None = ⊥
IsWalking plan (call ∷ later) pursuit (Some walk) =
    (call_of walk ≡ call) × (pursuit_of plan walk ≡ pursuit) × IsWalkOver plan walk
    × (answer_of pursuit ≡ None)
