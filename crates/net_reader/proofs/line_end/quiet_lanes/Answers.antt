use Rattle.std.proofs.Common.{arith}
use Rattle.std.proofs.lemmas.Bool.Decides.{nat_tests}
use Rattle.net_reader.proofs.LineEnd.{marks, quiet-all, quiet-few, quiet-front}
use Rattle.net_reader.proofs.line_end.quiet_lanes.Goals as goal

pub returns-then-marks-eq0-clause-inside : goal.returns-then-marks-eq0-clause-inside
returns-then-marks-eq0-clause-inside c = grind (arith, marks, quiet-all)

pub returns-else-marks-eq0-clause-few : goal.returns-else-marks-eq0-clause-few
returns-else-marks-eq0-clause-few c = grind (arith, marks, quiet-few)

pub returns-else-marks-eq0-clause-inside : goal.returns-else-marks-eq0-clause-inside
returns-else-marks-eq0-clause-inside c =
    let piece = c.args.piece.now in
    quiet-front piece c.args.at c.requires (marks piece c.args.at c.requires)
    (grind (arith, nat_tests, c.if-marks-eq0.false))
