use Rattle.std.proofs.Common.{subst, sym, ◌∙◌}
use Rattle.distances.specs.Table.{DistanceTable}
use Rattle.net_reader.specs.Seen.{seen_input}
use Rattle.runner.specs.Roles.{IsSetFor}
use Rattle.runner.specs.Runs.{AreWorkersOf}
use Rattle.runner.proofs.Finishing.{put-back}
use Rattle.runner.proofs.running.run_workers.Goals as goal

pub finish_run-requires-clause-workers : goal.finish_run-requires-clause-workers
finish_run-requires-clause-workers g c =
    let input = seen_input c.args.input.now in
    let opened = c.in_ok-tracker.tracker in
    let are = c.in_ok-tracker.ensures.workers in
    let set = subst (λ (d : DistanceTable). IsSetFor input opened.setup c.args.plan.now d) c.requires.together.belongs
    c.in_ok-tracker.ensures.set in
    let now = c.play_all.ensures input set (subst (AreWorkersOf input opened) (sym c.deref_mut.ensures.value) are) in
    subst (AreWorkersOf input opened)
    (sym (put-back c.play_all.new.workers c.in_ok-tracker.workers.items c.in_ok-tracker.workers.ok.0
    (now.count ∙ sym are.count))) now
