use Rattle.std.proofs.Common.{refl}
use Rattle.report_check.proofs.Judged.{judged}
use Rattle.report_check.proofs.examples_of_parts.lines_of_orders.Goals as goal

pub returns-clause-full : goal.returns-clause-full
unfolding judged
returns-clause-full c = refl

pub returns-clause-not_full : goal.returns-clause-not_full
unfolding judged
returns-clause-not_full c = refl

pub returns-clause-too_long : goal.returns-clause-too_long
unfolding judged
returns-clause-too_long c = refl

pub returns-clause-second_line : goal.returns-clause-second_line
unfolding judged
returns-clause-second_line c = refl

pub returns-clause-empty : goal.returns-clause-empty
unfolding judged
returns-clause-empty c = refl

pub returns-clause-behind_calls : goal.returns-clause-behind_calls
unfolding judged
returns-clause-behind_calls c = refl

pub returns-clause-no_end : goal.returns-clause-no_end
unfolding judged
returns-clause-no_end c = refl
