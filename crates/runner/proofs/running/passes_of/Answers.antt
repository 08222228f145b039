use Rattle.std.proofs.Common.{[], ◌∷◌, ◌++◌, List, map, ap, sym, ◌∙◌, append_assoc}
use Rattle.std.specs.Vec.Iter.{into_iter_items}
use Rattle.std.proofs.lemmas.List.{map-append}
use Rattle.station.specs.Passes.{PassData}
use Rattle.runner.specs.declared.worker.Worker.{Worker}
use Rattle.runner.proofs.running.passes_of.Goals as goal

pub workers-preserved : goal.workers-preserved
workers-preserved c =
    let d = c.workers.invariant in
    let pass_of = λ (worker : Worker). worker.pass in
    record {
      pushed = c.in_ok-push.ensures.items ∙ (ap (λ (ps : List PassData). ps ++ c.into_pass.result ∷ []) d.pushed
          ∙ (ap (λ (p : PassData). map pass_of c.workers.yielded ++ p ∷ []) c.into_pass.ensures
          ∙ sym (map-append pass_of c.workers.yielded (c.in-Some.worker ∷ []))));
      all = d.all ∙ (ap (λ (rest : List Worker). c.workers.yielded ++ rest) c.in-Some.ensures.steps.0
          ∙ sym (append_assoc c.workers.yielded (c.in-Some.worker ∷ []) (into_iter_items c.next.new.self)));
    }
