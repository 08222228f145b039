use Rattle.std.proofs.Common.{length, ap, arith}
use Rattle.directory.specs.Outcomes.{result_of}
use Rattle.json_form.proofs.Texts.{report-is}
use Rattle.json_form.proofs.report.ReportParts.new.Goals as goal

pub returns-clause-text : goal.returns-clause-text
returns-clause-text c =
    report-is (result_of c.args.outcome.now) c.deref.ensures.value c.deref-2.ensures.value
    (omega (arith, c.len-visits.ensures, c.deref-2.ensures.len, ap length c.deref-2.ensures.value))
