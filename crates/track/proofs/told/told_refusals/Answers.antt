use Rattle.std.proofs.Common.{◌≡◌, ℕ, List, inl, inr}
use Rattle.json_form.specs.Laws.{NotRefused, OneCause}
use Rattle.json_form.specs.TextOfJson.{IsNoJson, IsShapeless}
use Rattle.track.specs.declared.status.Status.{Status}
use Rattle.track.specs.Results.{IsJsonAnswer, no_json_line, no_shape_line}
use Rattle.track.proofs.told.told_refusals.Goals as goal

of-no-json : NotRefused → OneCause → (bytes text : List ℕ) (status : Status) → IsNoJson bytes
    → IsJsonAnswer bytes status text → text ≡ no_json_line
of-no-json right cause bytes text status none (inl made) =
    absurd ((right bytes made.listing made.listed).0 none)
of-no-json right cause bytes text status none (inr (inl shapeless)) =
    absurd (cause bytes shapeless.0 none)
of-no-json right cause bytes text status none (inr (inr no-json)) = no-json.2

of-no-shape : NotRefused → OneCause → (bytes text : List ℕ) (status : Status) → IsShapeless bytes
    → IsJsonAnswer bytes status text → text ≡ no_shape_line
of-no-shape right cause bytes text status less (inl made) =
    absurd ((right bytes made.listing made.listed).1 less)
of-no-shape right cause bytes text status less (inr (inl shapeless)) = shapeless.2
of-no-shape right cause bytes text status less (inr (inr no-json)) =
    absurd (cause bytes less no-json.0)

pub returns-clause-no_json : goal.returns-clause-no_json
returns-clause-no_json c = of-no-json c.one_text.ensures.right c.one_text.ensures.cause

pub returns-clause-no_shape : goal.returns-clause-no_shape
returns-clause-no_shape c = of-no-shape c.one_text.ensures.right c.one_text.ensures.cause
