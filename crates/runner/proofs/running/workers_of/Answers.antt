use Rattle.std.proofs.Common.{length, ap, sym, ◌∙◌, arith, append_assoc, length-append}
use Rattle.std.specs.Prelude.{slice_get}
use Rattle.std.specs.Vec.Iter.{into_iter_items}
use Rattle.std.proofs.lemmas.List.{length_push}
use Rattle.station.specs.declared.view.View.{View}
use Rattle.runner.proofs.Finishing.{at-seam, at-some, fresh-actor, fresh-serves, fresh-worker, one-fresh, one-more}
use Rattle.runner.proofs.running.workers_of.Goals as goal

pub new-requires : goal.new-requires
new-requires c =
    let fresh = c.requires.fresh in
    let at = at-seam c.passes.yielded c.passes.invariant.all c.in-Some.ensures.steps.0 in
    let low = at-some c.args.passes.items (length c.passes.yielded) at in
    record {
      may = fresh-serves (fresh.1 (length c.passes.yielded) c.in-Some.pass at) fresh.2
          (omega (arith, low.0, c.requires.count));
    }

pub passes-preserved : goal.passes-preserved
passes-preserved c =
    let pushed = c.in_ok-push.ensures.items in
    let at = at-seam c.passes.yielded c.passes.invariant.all c.in-Some.ensures.steps.0 in
    record {
      count = omega (
        arith,
        ap length pushed,
        length_push c.passes.workers.items c.in-Ok.worker,
        length_push c.passes.yielded c.in-Some.pass,
        c.passes.invariant.count,
      );
      each = λ tracker fresh set k one there.
          let mine = fresh (length c.passes.yielded) c.in-Some.pass at in
          one-more c.passes.workers.items (c.passes.invariant.each tracker fresh set)
          (c.in-Ok.ensures.worker tracker (record {
            table = mine.table;
            setup = ap (λ (v : View). v.setup) mine.view;
          })) (fresh-actor mine c.in-Ok.ensures.pass ∙ sym c.passes.invariant.count) k
          (ap (λ xs. slice_get xs k) (sym pushed) ∙ there);
      fresh = λ tracker fresh k one there.
          let mine = fresh (length c.passes.yielded) c.in-Some.pass at in
          one-fresh c.passes.workers.items (c.passes.invariant.fresh tracker fresh) (sym c.passes.invariant.count)
          (fresh-worker c.in-Ok.worker mine c.in-Ok.ensures.pass c.in-Ok.ensures.fresh.0 c.in-Ok.ensures.fresh.1) k one
          (ap (λ xs. slice_get xs k) (sym pushed) ∙ there);
      all = rw (c.passes.invariant.all, c.in-Some.ensures.steps.0, append_assoc);
    }

pub returns-clause-workers : goal.returns-clause-workers
returns-clause-workers c = λ tracker fresh set. record {
  count = omega (
    arith,
    c.passes.invariant.count,
    c.requires.count,
    ap length c.passes.invariant.all,
    length-append c.passes.yielded (into_iter_items c.passes.pass-iterator),
    c.in-None.ensures.steps.0,
  );
  each = c.passes.invariant.each tracker fresh set;
}

pub returns-clause-fresh : goal.returns-clause-fresh
returns-clause-fresh c = c.passes.invariant.fresh
