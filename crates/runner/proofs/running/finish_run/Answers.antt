use Rattle.std.proofs.Common.{ap, ◌∙◌}
use Rattle.directory.specs.Outcomes.{outcome_of}
use Rattle.machine.specs.Stands.{setting_over}
use Rattle.net_reader.specs.Seen.{seen_input}
use Rattle.scripts.specs.Scripts.{scripts_of}
use Rattle.std.proofs.lemmas.Result.{IfOk-weaker}
use Rattle.runner.proofs.Finishing.{all-of, finished, outcome-of-run}
use Rattle.runner.proofs.running.finish_run.Goals as goal

pub close-requires : goal.close-requires
close-requires c = record {
  of = all-of c.requires.workers c.in_ok-passes.ensures;
}

pub returns-clause-finished : goal.returns-clause-finished
returns-clause-finished c =
    let input = seen_input c.args.input.now in
    IfOk-weaker c.complete.result _ _ (λ outcome is. finished c.order_of_history.ensures.completed c.requires.set
    c.requires.workers (rw c.in_ok-passes.ensures at c.in-Ok.ensures.order)
    (is ∙ ap (outcome_of (setting_over input c.args.plan.now) (scripts_of input)) c.deref.ensures.value))
    c.complete.ensures

pub returns-clause-outcome : goal.returns-clause-outcome
returns-clause-outcome c =
    let input = seen_input c.args.input.now in
    IfOk-weaker c.complete.result _ _ (λ outcome is. outcome-of-run c.order_of_history.ensures.done
    c.each_visit_is_next.ensures.order c.all_scripts_done.ensures.done (setting_over input c.args.plan.now)
    (scripts_of input) c.deref.result.now is) c.complete.ensures
