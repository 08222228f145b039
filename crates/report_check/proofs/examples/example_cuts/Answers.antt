use Rattle.std.proofs.Common.{refl}
use Rattle.report_check.specs.Cuts.{input_from, report_from}
use Rattle.report_check.proofs.examples.example_cuts.Goals as goal

pub returns-clause-first : goal.returns-clause-first
unfolding input_from report_from
returns-clause-first c = refl

pub returns-clause-first_report : goal.returns-clause-first_report
unfolding input_from report_from
returns-clause-first_report c = refl

pub returns-clause-blanks : goal.returns-clause-blanks
unfolding input_from report_from
returns-clause-blanks c = refl

pub returns-clause-blanks_report : goal.returns-clause-blanks_report
unfolding input_from report_from
returns-clause-blanks_report c = refl

pub returns-clause-first_of_two : goal.returns-clause-first_of_two
unfolding input_from report_from
returns-clause-first_of_two c = refl

pub returns-clause-second_is_report : goal.returns-clause-second_is_report
unfolding input_from report_from
returns-clause-second_is_report c = refl

pub returns-clause-nowhere : goal.returns-clause-nowhere
unfolding input_from report_from
returns-clause-nowhere c = refl

pub returns-clause-nowhere_report : goal.returns-clause-nowhere_report
unfolding input_from report_from
returns-clause-nowhere_report c = refl

pub returns-clause-two_returns : goal.returns-clause-two_returns
unfolding input_from report_from
returns-clause-two_returns c = refl

pub returns-clause-last : goal.returns-clause-last
unfolding input_from report_from
returns-clause-last c = refl

pub returns-clause-last_report : goal.returns-clause-last_report
unfolding input_from report_from
returns-clause-last_report c = refl

pub returns-clause-empty_lines : goal.returns-clause-empty_lines
unfolding input_from report_from
returns-clause-empty_lines c = refl
