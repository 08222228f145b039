use Rattle.std.proofs.Common.{◌≡◌, inl, inr, arith}
use Rattle.std.proofs.lemmas.Bool.{cases_lt}
use Rattle.node_set.specs.Balls.{sets}
use Rattle.node_set.specs.BallLaws.{ball_at, inside_from, length-sets}
use Rattle.node_set.specs.SetLaws.{below-has}
use Rattle.node_set.proofs.turning.balls_are_inside.Goals as goal

pub loop-u-init : goal.loop-u-init
loop-u-init c = λ v x below h. absurd (omega arith)

pub loop-u-preserved : goal.loop-u-preserved
loop-u-preserved c = λ v x below h. elim (cases_lt v c.loop-u.u) [
  | inl before ↦ c.loop-u.invariant v x before h
  | inr now ↦
      let same : v ≡ c.loop-u.u = omega arith in
      let at = ball_at c.args.balls.now c.loop-u.u c.index-balls-u.result c.loop-u-test.true c.index-balls-u.is in
      let room = c.requires c.loop-u.u c.index-balls-u.result c.loop-u-test.true in
      omega (
        arith,
        rw (← c.index-balls-u.is) at room,
        below-has c.index-balls-u.result.room x c.index-balls-u.result.members c.set_is_sound.ensures.below
            (rw (same, at) at h),
      )
]

pub returns : goal.returns
returns c = λ v x h.
    inside_from (sets c.args.balls.now) (λ u y below g. omega (
      arith,
      length-sets c.args.balls.now,
      c.loop-u.invariant u y (omega (arith, length-sets c.args.balls.now, c.loop-u-test.false)) g,
    )) v x h
