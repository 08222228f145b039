use Rattle.std.proofs.Common.{subst}
use Rattle.distances.specs.Table.{DistanceTable}
use Rattle.net_reader.specs.Seen.{seen_input}
use Rattle.runner.specs.Roles.{IsSetFor}
use Rattle.runner_tests.proofs.Hands.{pass-free}
use Rattle.runner_tests.proofs.hand_tests.around_a_stay_over.Goals as goal

pub play_around-requires-clause-set : goal.play_around-requires-clause-set
play_around-requires-clause-set c =
    let input = seen_input c.args.input.now in (
      input,
      subst (λ (d : DistanceTable). IsSetFor input c.in_ok-tracker.tracker.setup c.args.plan.now d)
          c.requires.together.belongs c.in_ok-tracker.ensures.set,
      (c.in-Some.ensures input c.in_ok-tracker.tracker c.in_ok-tracker.ensures.workers).1,
    )

pub play_around-requires-clause-other : goal.play_around-requires-clause-other
play_around-requires-clause-other c =
    let input = seen_input c.args.input.now in
    pass-free input c.in_ok-tracker.tracker c.in-Some.subscriber c.into_pass-pass.result
    (c.in-Some.ensures input c.in_ok-tracker.tracker c.in_ok-tracker.ensures.workers).0 c.into_pass-pass.ensures
