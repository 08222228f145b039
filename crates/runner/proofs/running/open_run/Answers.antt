use Rattle.runner.proofs.Finishing.{new-set}
use Rattle.runner.proofs.running.open_run.Goals as goal

pub returns-clause-set : goal.returns-clause-set
returns-clause-set c =
    new-set c.requires.together c.deref.ensures.value c.in_ok-tracker.ensures.setup

pub returns-clause-workers : goal.returns-clause-workers
returns-clause-workers c =
    c.in_ok-workers.ensures.workers c.in_ok-tracker.tracker c.in_ok-tracker.ensures.fresh
    (new-set c.requires.together c.deref.ensures.value c.in_ok-tracker.ensures.setup)

pub returns-clause-fresh : goal.returns-clause-fresh
returns-clause-fresh c = c.in_ok-workers.ensures.fresh c.in_ok-tracker.tracker c.in_ok-tracker.ensures.fresh
