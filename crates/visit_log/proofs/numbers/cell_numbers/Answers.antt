use Rattle.visit_log.proofs.Apart.{cell-below, cell-apart}
use Rattle.visit_log.proofs.numbers.cell_numbers.Goals as goal

pub returns-clause-below : goal.returns-clause-below
returns-clause-below c = cell-below

pub returns-clause-apart : goal.returns-clause-apart
returns-clause-apart c = cell-apart
