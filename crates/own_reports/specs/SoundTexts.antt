-- What the directory itself reports of an input is sound in the report's own words
-- (`IsSoundReport`): for every valid input and every order of visits, whether the order is the
-- input's own or one that threads made, what becomes of the input's calls under it.
-- Key law: `own_reports_are_sound_texts` (`OwnReportsAreSoundTexts`).
use Rattle.std.specs.Prelude.{ℕ, List}
use Rattle.net_reader.specs.Input.{Contents}
use Rattle.net_reader.specs.Valid.{IsValid}
use Rattle.soundness.specs.Sound.{IsSoundReport}
use Rattle.own_reports.specs.Reports.{outcome_under}

-- what the directory reports under an order is a sound report of the input with that order
-- (`own_reports_are_sound_texts`)
abbrev pub OwnReportsAreSoundTexts : Type 0
OwnReportsAreSoundTexts =
    (contents : Contents) (order : List ℕ) → IsValid contents
    → IsSoundReport (record contents { order = order }) (outcome_under contents order)
