use Rattle.std.proofs.Common.{◌≡◌, length}
use Rattle.report_check.specs.Cuts.{behind_blanks}
use Rattle.report_check.proofs.cut.behind_blanks.Given as goal

abbrev pub invariant-blanks : goal.invariant-blanks
invariant-blanks l = behind_blanks l.text ≡ behind_blanks l.rest

abbrev pub decreases-blanks : goal.decreases-blanks
decreases-blanks l = length l.rest
