use Rattle.std.proofs.Common.{arith}
use Rattle.track_c.proofs.Ways.{climb-few, climb-light}
use Rattle.track_c.proofs.looks.climb_on.Goals as goal

pub overflow_mul-weight : goal.overflow_mul-weight
overflow_mul-weight c =
    omega (
      arith,
      c.reader_weight-way.ensures,
      climb-light c.args.plan.now c.args.climb c.plan_is_sound.ensures.sound c.plan_is_sound.ensures.matched
          c.plan_is_sound.ensures.reached c.requires,
    )

pub overflow_add-weight : goal.overflow_add-weight
overflow_add-weight c =
    omega (
      arith,
      c.reader_weight-way.ensures,
      climb-light c.args.plan.now c.args.climb c.plan_is_sound.ensures.sound c.plan_is_sound.ensures.matched
          c.plan_is_sound.ensures.reached c.requires,
      climb-few c.args.plan.now c.args.climb c.plan_is_sound.ensures.sound c.plan_is_sound.ensures.matched c.requires,
      c.plan_is_sound.ensures.sound.few,
      c.requires.progress.0,
      c.requires.progress.1,
      c.requires.progress.2,
    )

pub overflow_add-index : goal.overflow_add-index
overflow_add-index c =
    omega (
      arith,
      climb-few c.args.plan.now c.args.climb c.plan_is_sound.ensures.sound c.plan_is_sound.ensures.matched c.requires,
      c.requires.progress.1,
    )
