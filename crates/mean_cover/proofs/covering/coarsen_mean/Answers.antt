use Rattle.std.proofs.Common.{length, sym}
use Rattle.node_set.specs.Balls.{sets}
use Rattle.node_set.specs.BallLaws.{length-sets}
use Rattle.mean_cover.proofs.Results.{growths_bounded, homes_hold, sum_bounded}
use Rattle.mean_cover.proofs.covering.coarsen_mean.Goals as goal

pub returns-clause-growths : goal.returns-clause-growths
returns-clause-growths c =
    growths_bounded (sets c.args.balls.now) c.args.k c.requires.low c.requires.centred c.balls_are_inside.ensures

pub returns-clause-homes : goal.returns-clause-homes
returns-clause-homes c =
    homes_hold (sets c.args.balls.now) c.args.k (length c.args.balls.now) c.in_ok-cover.cover c.requires.low
    c.requires.centred c.balls_are_inside.ensures (sym (length-sets c.args.balls.now)) c.in_ok-cover.ensures.exact

pub returns-clause-small_sum : goal.returns-clause-small_sum
returns-clause-small_sum c =
    sum_bounded (sets c.args.balls.now) c.args.k (length c.args.balls.now) c.in_ok-cover.cover c.requires.low
    c.requires.centred c.balls_are_inside.ensures (sym (length-sets c.args.balls.now)) c.in_ok-cover.ensures.exact
    c.mean_covers_are_small.ensures
