use Rattle.std.proofs.Common.{◌<◌, get_or, length, subst, sym, ap, ◌∙◌, arith}
use Rattle.std.specs.Prelude.{Some}
use Rattle.runner.specs.Workers.{IsWorkerOf}
use Rattle.runner.proofs.Finishing.{at-some, changed}
use Rattle.runner.proofs.running.play_all.Goals as goal
use Rattle.std.proofs.lemmas.Option.{slice_get-get_or}

pub for_each_mut-requires-clause-accepts : goal.for_each_mut-requires-clause-accepts
for_each_mut-requires-clause-accepts g c κs within = λ i p low is.
    let set = c.requires.set in (
      (
        set.0,
        record {
          set = set.1;
          worker_is = (set.2.each i p.now (slice_get-get_or c.args.workers.now i p.now low
              ∙ ap (λ w. Some w) (sym is))).0;
        },
      ),
      record { shared = c.type_bounds.sync-G.shared },
    )

pub returns : goal.returns
returns g c = λ input set are. record {
  count = omega (arith, are.count, c.for_each_mut.auto.s);
  each = λ k worker at.
      let here = at-some c.for_each_mut.new.s k at in
      let low : k < length c.args.workers.now = omega (arith, here.0, c.for_each_mut.auto.s) in
      let change = (c.for_each_mut.ensures k worker low).1 in
      let old = are.each k (get_or c.args.workers.now k worker) (slice_get-get_or c.args.workers.now k worker low) in
      let new = change.call input (record {
        set = set;
        worker_is = subst (IsWorkerOf input c.args.tracker.now) (sym change.argument_is) old.0;
      }) in
      changed change.argument_is (change.left ∙ here.1) old.1 new;
}
