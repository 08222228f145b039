use Rattle.std.proofs.Common.{refl}
use Rattle.report_check.proofs.Judged.{judged}
use Rattle.report_check.proofs.examples.flaws_of_place.Goals as goal

pub returns-clause-off_line : goal.returns-clause-off_line
unfolding judged
returns-clause-off_line c = refl

pub returns-clause-wrong_count : goal.returns-clause-wrong_count
unfolding judged
returns-clause-wrong_count c = refl

pub returns-clause-light_move : goal.returns-clause-light_move
unfolding judged
returns-clause-light_move c = refl

pub returns-clause-heavy_move : goal.returns-clause-heavy_move
unfolding judged
returns-clause-heavy_move c = refl
