-- The line that tells the stretches of a plan: the one that its text has too, which all plans of its
-- degree and reach have, and its own two (`OwnStretch`).
-- Key law: `stretch_text`, by its clause; `line_of_stretches` computes one.
use Rattle.std.specs.Prelude.{ℕ, List, [], ◌∷◌, codes}
use Rattle.outside.specs.Texts.{◌then◌, field}
use Rattle.region_plan.specs.Measures.{stretch_of}
use Rattle.region_plan.specs.Plan.{PlanData}
use Rattle.own_stretch.specs.declared.stretches.OwnStretches.{OwnStretches}

-- the line of a plan that has these stretches of its own
abbrev pub stretch_text_of : PlanData → OwnStretches → List ℕ
stretch_text_of plan own_stretches =
    codes "stretch" then field (stretch_of plan) then codes " own" then field own_stretches.own
    then codes " any" then field own_stretches.any then 10 ∷ []
