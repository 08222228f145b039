use Rattle.report_check.proofs.ReportForms.{read-back}
use Rattle.report_check.proofs.ReportRead.{report-reads}
use Rattle.report_check.proofs.forms.reports_are_read.Goals as goal

pub returns : goal.returns
returns c = record { whole = report-reads; only = read-back }
