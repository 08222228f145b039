use Rattle.tracker_calls.specs.FaultLaws.{handset-unfound}
use Rattle.tracker_tests.proofs.steps.find_soon.Goals as goal

pub returns-in-Err-clause-keeps : goal.returns-in-Err-clause-keeps
returns-in-Err-clause-keeps c = λ handset.
    handset-unfound c.args.tracker.now.setup c.args.pass.now c.find_now.new.pass
    (record { from = c.args.from; sub = c.args.sub }) c.in-Err.fault handset c.in-Err.ensures.find
