use Rattle.std.proofs.Common.{refl}
use Rattle.report_check.proofs.Judged.{judged}
use Rattle.report_check.proofs.examples.worked_reports.Goals as goal

pub returns-clause-whole : goal.returns-clause-whole
unfolding judged
returns-clause-whole c = refl

pub returns-clause-elsewhere : goal.returns-clause-elsewhere
unfolding judged
returns-clause-elsewhere c = refl

pub returns-clause-heaviest : goal.returns-clause-heaviest
unfolding judged
returns-clause-heaviest c = refl

pub returns-clause-too_heavy : goal.returns-clause-too_heavy
unfolding judged
returns-clause-too_heavy c = refl

pub returns-clause-late_commit : goal.returns-clause-late_commit
unfolding judged
returns-clause-late_commit c = refl

pub returns-clause-needless : goal.returns-clause-needless
unfolding judged
returns-clause-needless c = refl

pub returns-clause-cut : goal.returns-clause-cut
unfolding judged
returns-clause-cut c = refl
