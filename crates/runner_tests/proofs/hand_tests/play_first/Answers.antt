use Rattle.runner_tests.proofs.Hands.{first-played, first-there}
use Rattle.runner_tests.proofs.hand_tests.play_first.Goals as goal

pub play-requires-clause-may : goal.play-requires-clause-may
play-requires-clause-may g c κs within =
    let input = c.requires.set.0 in
    let there = first-there input c.args.tracker.now c.args.plan.now c.args.distances.now c.args.workers.now.items
    c.index_mut.result.now c.requires.set.1 c.requires.set.2 c.index_mut.ensures.value in (
      input,
      record { set = c.requires.set.1; worker_is = (c.requires.set.2.each 0 c.index_mut.result.now there).0 },
    )

pub returns : goal.returns
returns g c = λ input set are.
    let there = first-there input c.args.tracker.now c.args.plan.now c.args.distances.now c.args.workers.now.items
    c.index_mut.result.now set are c.index_mut.ensures.value in
    let played = c.play.ensures.played input (record {
      set = set;
      worker_is = (are.each 0 c.index_mut.result.now there).0;
    }) in
    first-played input c.args.tracker.now c.args.workers.now.items c.index_mut.result.now c.play.new.self played.lost
    are there played.gone
