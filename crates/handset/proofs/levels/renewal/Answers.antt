use Rattle.std.proofs.Common.{ℕ, ◌+◌, arith, get_or, List, Bool}
use Rattle.std.specs.Prelude.{nat_le}
use Rattle.region_plan.specs.Plan.{PlanData, threshold}
use Rattle.handset.proofs.Lists.{highest-here, highest-later, highest-none}
use Rattle.handset.proofs.levels.renewal.Goals as goal
use Rattle.std.proofs.lemmas.Bool.{lt-leb}

-- whether a level is reached
abbrev reaches : PlanData → List ℕ → ℕ → ℕ → Bool
reaches plan gathered weight level = nat_le (threshold plan level) (get_or gathered level 0 + weight)

pub loop-limit-init : goal.loop-limit-init
loop-limit-init c = grind arith

pub returns-then-threshold-gathered-clause-highest : goal.returns-then-threshold-gathered-clause-highest
returns-then-threshold-gathered-clause-highest c = grind (arith, reaches, highest-here)

pub loop-limit-preserved : goal.loop-limit-preserved
loop-limit-preserved c = grind (arith, highest-later, lt-leb)

pub returns-clause-highest : goal.returns-clause-highest
returns-clause-highest c = grind (arith, reaches, highest-none)
