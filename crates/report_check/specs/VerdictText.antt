-- The line that tells a verdict.
-- Key laws: `verdict_line` (it writes this line), `example_verdicts` (lines of each kind,
-- computed).
use Rattle.std.specs.Prelude.{ℕ, List, [], ◌∷◌, codes}
use Rattle.outside.specs.Texts.{◌then◌, field}
use Rattle.report_check.specs.declared.verdict.Verdict.{Verdict}
use Rattle.report_check.specs.declared.verdict.Verdict.TheVariants.{Sound, Unsound}
use Rattle.report_check.specs.Verdicts.{name_of}

-- `yes`, or `no` with the line and the name of the flaw
abbrev pub verdict_line_of : Verdict → List ℕ
verdict_line_of Sound = codes "yes" then 10 ∷ []
verdict_line_of (Unsound line cause) =
    codes "no" then field line then codes " " then name_of cause then 10 ∷ []
