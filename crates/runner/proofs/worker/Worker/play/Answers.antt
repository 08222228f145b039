use Rattle.std.proofs.Common.{refl, ap, ◌∙◌, arith}
use Rattle.net_reader.specs.Input.{Contents}
use Rattle.runner.specs.Workers.{MayPlay}
use Rattle.runner.specs.declared.worker.Worker.{Worker}
use Rattle.runner.proofs.Working.{gone-on, kept-gone, kept-may, may-try, prepared-gone, role-gone, some-left}
use Rattle.runner.proofs.worker.Worker.play.Goals as goal

pub tries-init : goal.tries-init
tries-init g c = record {
  may = c.requires.may;
  gone = λ input may. role-gone c.args.self.now.role may.worker_is may.worker_is.role;
  few = omega arith;
  kept = λ is_open. refl;
  shut = λ is_shut. (refl, refl, refl);
}

pub prepare-requires : goal.prepare-requires
prepare-requires g c =
    let may = c.tries.invariant.may.1 in
    record {
      its = (
        c.tries.invariant.may.0,
        c.args.tracker.now.setup,
        c.tries.self.pass.view,
        c.tries.self.pass.spare,
        may.set,
        may.worker_is.role,
      );
    }

pub returns-then-held-kept-clause-played : goal.returns-then-held-kept-clause-played
returns-then-held-kept-clause-played g c = λ input may.
    let gone = c.tries.invariant.gone input may in
    let tracker = c.args.tracker.now in
    let prepares = c.prepare.ensures.its _ _ _ _ may.set gone.worker.role in
    record {
      lost = c.tries.held;
      gone = prepared-gone c.lines_grow.ensures.kept c.prepare.new.self gone prepares.0;
      says = (
        some-left input tracker.setup c.tries.self.pass c.prepare.new.self c.tries-test.true prepares,
        c.if-held-kept.true,
        refl,
      );
    }

pub attempt-requires-clause-may : goal.attempt-requires-clause-may
attempt-requires-clause-may g c κs within =
    let input = c.tries.invariant.may.0 in
    let may = c.tries.invariant.may.1 in (
      input,
      may-try c.prepare.new.self may c.tries-test.true (c.prepare.ensures.its _ _ _ _ may.set may.worker_is.role),
    )

pub tries-smaller-in-Made : goal.tries-smaller-in-Made
tries-smaller-in-Made g c =
    let input = c.tries.invariant.may.0 in
    let may = c.tries.invariant.may.1 in
    let tried = c.in-Made.ensures.tried input
    (may-try c.prepare.new.self may c.tries-test.true (c.prepare.ensures.its _ _ _ _ may.set may.worker_is.role)) in
    omega (arith, tried.0.spare, tried.1)

pub tries-preserved-in-Made : goal.tries-preserved-in-Made
tries-preserved-in-Made g c =
    let tracker = c.args.tracker.now in
    let try_of = λ (input : Contents) (may : MayPlay input tracker c.args.plan.now c.args.distances.now c.tries.self).
    c.in-Made.ensures.tried input
    (may-try c.prepare.new.self may c.tries-test.true (c.prepare.ensures.its _ _ _ _ may.set may.worker_is.role)) in
    record {
      may = (
        c.tries.invariant.may.0,
        record {
          set = c.tries.invariant.may.1.set;
          worker_is = (try_of c.tries.invariant.may.0 c.tries.invariant.may.1).0.worker;
        },
      );
      gone = λ input may.
          let gone = c.tries.invariant.gone input may in
          let prepares = c.prepare.ensures.its _ _ _ _ may.set gone.worker.role in
          gone-on c.lines_grow.ensures.kept (prepared-gone c.lines_grow.ensures.kept c.prepare.new.self gone prepares.0)
          (try_of input (record { set = may.set; worker_is = gone.worker })).0 (omega arith);
      few = c.tries.invariant.few;
      kept = c.tries.invariant.kept;
      shut = λ is_shut. cc (c.in-Made.ensures.shut is_shut);
    }

pub tries-smaller-in-Held : goal.tries-smaller-in-Held
tries-smaller-in-Held g c =
    let input = c.tries.invariant.may.0 in
    let may = c.tries.invariant.may.1 in
    let tried = c.in-Held.ensures.tried input
    (may-try c.prepare.new.self may c.tries-test.true (c.prepare.ensures.its _ _ _ _ may.set may.worker_is.role)) in
    omega (arith, tried.0.spare, tried.1, c.tries.invariant.few, c.if-held-kept.false)

pub tries-preserved-in-Held : goal.tries-preserved-in-Held
tries-preserved-in-Held g c =
    let tracker = c.args.tracker.now in
    let try_of = λ (input : Contents) (may : MayPlay input tracker c.args.plan.now c.args.distances.now c.tries.self).
    c.in-Held.ensures.tried input
    (may-try c.prepare.new.self may c.tries-test.true (c.prepare.ensures.its _ _ _ _ may.set may.worker_is.role)) in
    record {
      may = (
        c.tries.invariant.may.0,
        record {
          set = c.tries.invariant.may.1.set;
          worker_is = (try_of c.tries.invariant.may.0 c.tries.invariant.may.1).0.worker;
        },
      );
      gone = λ input may.
          let gone = c.tries.invariant.gone input may in
          let prepares = c.prepare.ensures.its _ _ _ _ may.set gone.worker.role in
          gone-on c.lines_grow.ensures.kept (prepared-gone c.lines_grow.ensures.kept c.prepare.new.self gone prepares.0)
          (try_of input (record { set = may.set; worker_is = gone.worker })).0 (omega arith);
      few = omega (arith, c.tries.invariant.few, c.if-held-kept.false);
      kept = c.tries.invariant.kept;
      shut = λ is_shut. cc (c.in-Held.ensures.shut is_shut);
    }

pub tries-smaller : goal.tries-smaller
tries-smaller g c =
    let input = c.tries.invariant.may.0 in
    let may = c.tries.invariant.may.1 in
    let same = c.in-Shut.ensures.tried input
    (may-try c.prepare.new.self may c.tries-test.true (c.prepare.ensures.its _ _ _ _ may.set may.worker_is.role)) in
    omega (arith, ap (λ (w : Worker). w.pass.spare) same, c.tries.invariant.few, c.if-held-kept.false)

pub tries-preserved : goal.tries-preserved
tries-preserved g c =
    let tracker = c.args.tracker.now in
    let try_of = λ (input : Contents) (may : MayPlay input tracker c.args.plan.now c.args.distances.now c.tries.self).
    c.in-Shut.ensures.tried input
    (may-try c.prepare.new.self may c.tries-test.true (c.prepare.ensures.its _ _ _ _ may.set may.worker_is.role)) in
    record {
      may = (
        c.tries.invariant.may.0,
        kept-may c.prepare.new.self c.tries.invariant.may.1
            (c.prepare.ensures.its _ _ _ _ c.tries.invariant.may.1.set c.tries.invariant.may.1.worker_is.role).0
            (try_of c.tries.invariant.may.0 c.tries.invariant.may.1),
      );
      gone = λ input may.
          let gone = c.tries.invariant.gone input may in
          let prepares = c.prepare.ensures.its _ _ _ _ may.set gone.worker.role in
          kept-gone (prepared-gone c.lines_grow.ensures.kept c.prepare.new.self gone prepares.0)
          (try_of input (record { set = may.set; worker_is = gone.worker }));
      few = omega (arith, c.tries.invariant.few, c.if-held-kept.false);
      kept = λ is_open. absurd (c.in-Shut.ensures.closed is_open refl);
      shut = λ is_shut.
          let still = c.tries.invariant.shut is_shut in
          let same = try_of c.tries.invariant.may.0 c.tries.invariant.may.1 in (
            ap (λ (w : Worker). w.pass) same ∙ still.0,
            ap (λ (w : Worker). w.made) same ∙ still.1,
            still.2,
          );
    }

pub returns-clause-played : goal.returns-clause-played
returns-clause-played g c = λ input may.
    let gone = c.tries.invariant.gone input may in
    let tracker = c.args.tracker.now in
    let prepares = c.prepare.ensures.its _ _ _ _ may.set gone.worker.role in
    record {
      lost = c.tries.held;
      gone = prepared-gone c.lines_grow.ensures.kept c.prepare.new.self gone prepares.0;
      says = (prepares.2.0 c.tries-test.false, omega (arith, c.tries.invariant.few));
    }
