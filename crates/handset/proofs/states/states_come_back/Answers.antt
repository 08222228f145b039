use Rattle.handset.proofs.Loaded.{states-back, states-only}
use Rattle.handset.proofs.states.states_come_back.Goals as goal

pub returns-clause-back : goal.returns-clause-back
returns-clause-back c = states-back

pub returns-clause-only : goal.returns-clause-only
returns-clause-only c = states-only
