use Rattle.std.proofs.Common.{refl}
use Rattle.report_check.proofs.Judged.{judged}
use Rattle.report_check.proofs.examples_of_parts.moves_within_finds.Goals as goal

pub returns-clause-by_its_last : goal.returns-clause-by_its_last
unfolding judged
returns-clause-by_its_last c = refl

pub returns-clause-met : goal.returns-clause-met
unfolding judged
returns-clause-met c = refl

pub returns-clause-met_behind : goal.returns-clause-met_behind
unfolding judged
returns-clause-met_behind c = refl

pub returns-clause-start_of_its_own : goal.returns-clause-start_of_its_own
unfolding judged
returns-clause-start_of_its_own c = refl

pub returns-clause-confirmed : goal.returns-clause-confirmed
unfolding judged
returns-clause-confirmed c = refl
