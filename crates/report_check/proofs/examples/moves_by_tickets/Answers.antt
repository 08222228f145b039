use Rattle.std.proofs.Common.{refl}
use Rattle.report_check.proofs.Judged.{judged}
use Rattle.report_check.proofs.examples.moves_by_tickets.Goals as goal

pub returns-clause-before : goal.returns-clause-before
unfolding judged
returns-clause-before c = refl

pub returns-clause-by_lines : goal.returns-clause-by_lines
unfolding judged
returns-clause-by_lines c = refl

pub returns-clause-passage : goal.returns-clause-passage
unfolding judged
returns-clause-passage c = refl

pub returns-clause-beyond_passage : goal.returns-clause-beyond_passage
unfolding judged
returns-clause-beyond_passage c = refl

pub returns-clause-met : goal.returns-clause-met
unfolding judged
returns-clause-met c = refl

pub returns-clause-met_heavy : goal.returns-clause-met_heavy
unfolding judged
returns-clause-met_heavy c = refl

pub returns-clause-moves_of_another : goal.returns-clause-moves_of_another
unfolding judged
returns-clause-moves_of_another c = refl

pub returns-clause-met_another : goal.returns-clause-met_another
unfolding judged
returns-clause-met_another c = refl
