use Rattle.std.proofs.Common.{ℕ, length, ◌*◌, ◌-◌, ◌≤◌, ◌∙◌, ap, arith, refl, slice_index, sym}
use Rattle.region_plan.specs.Plan.{inside}
use Rattle.region_plan.specs.ReaderLaws.{readers-few}
use Rattle.own_stretch.specs.Tables.{bare}
use Rattle.own_stretch.proofs.Light.{all-light}
use Rattle.own_stretch.proofs.Paying.{pay-is, pay-step}
use Rattle.own_stretch.proofs.Small.{threshold-small}
use Rattle.own_stretch.proofs.costs.pay_level.Goals as goal

pub overflow_cast-place : goal.overflow_cast-place
overflow_cast-place c =
    let its = all-light c.plan_is_sound.ensures.sound c.plan_is_sound.ensures.matched c.plan_is_sound.ensures.reached
    c.requires.level c.requires.node c.requires.far c.readers-readers.ensures c.loop-place-test.true in
    omega (arith, its.few)

pub overflow_mul-paid : goal.overflow_mul-paid
overflow_mul-paid c =
    let its = all-light c.plan_is_sound.ensures.sound c.plan_is_sound.ensures.matched c.plan_is_sound.ensures.reached
    c.requires.level c.requires.node c.requires.far c.readers-readers.ensures c.loop-place-test.true in
    omega (arith, its.few, its.light, c.reader_weight.ensures)

pub overflow_add-paid : goal.overflow_add-paid
overflow_add-paid c =
    let its = all-light c.plan_is_sound.ensures.sound c.plan_is_sound.ensures.matched c.plan_is_sound.ensures.reached
    c.requires.level c.requires.node c.requires.far c.readers-readers.ensures c.loop-place-test.true in
    omega (
      arith,
      c.loop-place.invariant.passed,
      c.loop-place.invariant.most,
      c.requires.level,
      c.plan_is_sound.ensures.sound.few,
      its.few,
      its.light,
      c.reader_weight.ensures,
    )

pub bounds-far-readers : goal.bounds-far-readers
bounds-far-readers c =
    let its = all-light c.plan_is_sound.ensures.sound c.plan_is_sound.ensures.matched c.plan_is_sound.ensures.reached
    c.requires.level c.requires.node c.requires.far c.readers-readers.ensures c.loop-place-test.true in
    its.known

pub overflow_mul-met : goal.overflow_mul-met
overflow_mul-met c =
    let its = all-light c.plan_is_sound.ensures.sound c.plan_is_sound.ensures.matched c.plan_is_sound.ensures.reached
    c.requires.level c.requires.node c.requires.far c.readers-readers.ensures c.loop-place-test.true in
    omega (arith, its.near)

pub overflow_add-met : goal.overflow_add-met
overflow_add-met c =
    let its = all-light c.plan_is_sound.ensures.sound c.plan_is_sound.ensures.matched c.plan_is_sound.ensures.reached
    c.requires.level c.requires.node c.requires.far c.readers-readers.ensures c.loop-place-test.true in
    omega (
      arith,
      c.loop-place.invariant.passed,
      c.loop-place.invariant.most,
      c.requires.level,
      c.plan_is_sound.ensures.sound.few,
      its.few,
      its.light,
      c.reader_weight.ensures,
      its.near,
    )

pub overflow_add-met-in-loop-place : goal.overflow_add-met-in-loop-place
overflow_add-met-in-loop-place c =
    let its = all-light c.plan_is_sound.ensures.sound c.plan_is_sound.ensures.matched c.plan_is_sound.ensures.reached
    c.requires.level c.requires.node c.requires.far c.readers-readers.ensures c.loop-place-test.true in
    omega (
      arith,
      c.loop-place.invariant.passed,
      c.loop-place.invariant.most,
      c.requires.level,
      c.plan_is_sound.ensures.sound.few,
      its.few,
      its.light,
      c.reader_weight.ensures,
      its.near,
      c.threshold.ensures,
      (threshold-small c.args.plan.now c.args.level c.plan_is_sound.ensures.sound
          c.requires.bounding c.requires.level).1,
    )

pub loop-place-preserved : goal.loop-place-preserved
loop-place-preserved c =
    let its = all-light c.plan_is_sound.ensures.sound c.plan_is_sound.ensures.matched c.plan_is_sound.ensures.reached
    c.requires.level c.requires.node c.requires.far c.readers-readers.ensures c.loop-place-test.true in
    record {
      paid = pay-step (bare c.args.plan.now) c.args.node c.args.level c.loop-place.place c.readers-readers.result.now
          c.loop-place.paid c.loop-place-test.true
          (pay-is (bare c.args.plan.now) c.args.node c.args.level
          (slice_index c.readers-readers.result.now c.loop-place.place) c.loop-place.paid
          (threshold-small c.args.plan.now c.args.level c.plan_is_sound.ensures.sound c.requires.bounding
          c.requires.level).0
          (c.reader_weight.ensures
          ∙ ap (λ rs. inside c.args.plan.now c.args.level (slice_index rs c.loop-place.place) c.args.node)
          (sym c.readers-readers.ensures))
          (c.requires.far.each (slice_index c.readers-readers.result.now c.loop-place.place) its.there)
          (ap (λ n. 2 * n - 2) c.threshold.ensures) refl refl (omega (arith, c.max.ensures)))
          c.loop-place.invariant.paid;
      passed = omega (
        arith,
        c.loop-place.invariant.passed,
        c.loop-place.invariant.most,
        c.requires.level,
        c.plan_is_sound.ensures.sound.few,
        its.few,
        its.light,
        c.reader_weight.ensures,
      );
      most = omega (
        arith,
        c.loop-place.invariant.passed,
        c.loop-place.invariant.most,
        c.requires.level,
        c.plan_is_sound.ensures.sound.few,
        its.few,
        its.light,
        c.reader_weight.ensures,
        its.near,
        c.threshold.ensures,
        (threshold-small c.args.plan.now c.args.level c.plan_is_sound.ensures.sound
            c.requires.bounding c.requires.level).1,
        c.max.ensures,
      );
    }

pub returns-clause-small : goal.returns-clause-small
returns-clause-small c =
    let few : c.loop-place.place ≤ 1024 = omega (
      arith,
      c.loop-place.auto.place-end,
      ap (length {A = ℕ}) c.readers-readers.ensures,
      readers-few c.args.plan.now c.args.level c.args.node c.plan_is_sound.ensures.matched
          c.plan_is_sound.ensures.sound c.requires.level c.requires.node,
    ) in
    record {
      passed = omega (arith, few, c.loop-place.invariant.passed);
      most = omega (arith, few, c.loop-place.invariant.most);
    }
