use Rattle.std.proofs.Common.{subst}
use Rattle.distances.specs.Table.{DistanceTable}
use Rattle.net_reader.specs.Seen.{seen_input}
use Rattle.runner.specs.Roles.{IsSetFor}
use Rattle.runner_tests.proofs.hand_tests.by_hand_over.Goals as goal

pub finish_run-requires-clause-workers : goal.finish_run-requires-clause-workers
finish_run-requires-clause-workers g c =
    let input = seen_input c.args.input.now in
    c.play_first-played.ensures input
    (subst (λ (d : DistanceTable). IsSetFor input c.in_ok-tracker.tracker.setup c.args.plan.now d)
    c.requires.together.belongs c.in_ok-tracker.ensures.set) c.in_ok-tracker.ensures.workers
