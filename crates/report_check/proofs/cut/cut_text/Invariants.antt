use Rattle.report_check.proofs.Searching.{IsPlace}
use Rattle.report_check.proofs.cut.cut_text.Given as goal

abbrev pub invariant-bytes : goal.invariant-bytes
invariant-bytes l = IsPlace l.text l.start l.at
