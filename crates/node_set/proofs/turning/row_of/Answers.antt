use Rattle.std.proofs.Common.{◌≡◌, arith}
use Rattle.node_set.specs.Balls.{ball, sets}
use Rattle.node_set.specs.BallLaws.{ball_at}
use Rattle.node_set.specs.SetLaws.{passing_inserts, passing_skips}
use Rattle.node_set.proofs.turning.row_of.Goals as goal
use Rattle.node_set.proofs.turning.row_of.Goals.{then-has, else-has}

pub loop-u-preserved : goal.loop-u-preserved
loop-u-preserved c =
    let at : ball (sets c.args.balls.now) c.loop-u.u ≡ c.index-balls-u.result.members =
    ball_at c.args.balls.now c.loop-u.u c.index-balls-u.result c.loop-u-test.true c.index-balls-u.is
    in
    grind (arith, then-has, passing_inserts, else-has, passing_skips)
