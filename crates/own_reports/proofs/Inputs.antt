-- What holds of the plan, the setting and the scripts of a valid input.
use Rattle.std.proofs.Common.{ℕ, ◌^◌, ◌≤◌, List, refl, arith}
use Rattle.net_reader.specs.Input.{Contents}
use Rattle.net_reader.specs.Valid.{IsValid}
use Rattle.directory.specs.Orders.{history_of}
use Rattle.directory.specs.Settings.{Setting}
use Rattle.directory.specs.Statements.{OrdersAreDone, OrdersArePlayed}
use Rattle.region_plan.specs.Matched.{BoundsFinds, PlansBoundFinds}
use Rattle.region_plan.specs.Meanings.{IsPlanOf, PlansMean}
use Rattle.region_plan.specs.Plan.{nodes_of}
use Rattle.region_plan.specs.Settings.{setting_of}
use Rattle.scripts.specs.Laws.{ScriptsAreValid}
use Rattle.scripts.specs.ScriptLaws.{few-nodes}
use Rattle.scripts.specs.Scripts.{IsSettingOf, scripts_of}
use Rattle.own_reports.proofs.Cuts.{IsOver}
use Rattle.report_check.specs.InputLaws.{network-valid}
use Rattle.report_check.specs.Inputs.{network_of, plan_for}

-- the plan of an input
pub plan-means : PlansMean → (contents : Contents) → IsValid contents
    → IsPlanOf (network_of contents) contents.k (plan_for contents)
plan-means means contents valid = means (network_of contents) contents.k (network-valid valid) valid.k_some

pub plan-bounds : PlansBoundFinds → (contents : Contents) → IsValid contents → BoundsFinds (plan_for contents)
plan-bounds bounds contents valid = bounds (network_of contents) contents.k (network-valid valid) valid.k_some

-- the setting of an input
abbrev pub setting_in : Contents → Setting
setting_in contents = setting_of (plan_for contents) contents.homes

pub setting-is : PlansMean → (contents : Contents) → IsValid contents → IsSettingOf contents (setting_in contents)
setting-is means contents valid = record {
  nodes = (plan-means means contents valid).distances.nodes;
  starts = refl;
}

pub few-in : PlansMean → (contents : Contents) → IsValid contents → nodes_of (plan_for contents) ≤ 2 ^ 16
few-in means contents valid =
    omega (arith, few-nodes contents valid, (setting-is means contents valid).nodes)

-- its scripts, played to their end
pub over-in : PlansMean → ScriptsAreValid → OrdersArePlayed → OrdersAreDone → (contents : Contents) (order : List ℕ)
    → IsValid contents
    → IsOver (setting_in contents) (scripts_of contents) (history_of (setting_in contents) (scripts_of contents) order)
over-in means scripts played done contents order valid = record {
  nodes = few-in means contents valid;
  valid = scripts contents (setting_in contents) valid (setting-is means contents valid);
  played = played (setting_in contents) (scripts_of contents) order;
  done = done (setting_in contents) (scripts_of contents) order;
}
