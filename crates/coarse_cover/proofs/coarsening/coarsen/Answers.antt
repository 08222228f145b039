use Rattle.std.proofs.Common.{length, sym}
use Rattle.coarse_cover.proofs.Results.{growths_bounded, homes_hold, clusters_apart}
use Rattle.coarse_cover.proofs.coarsening.coarsen.Goals as goal
use Rattle.node_set.specs.Balls.{sets}
use Rattle.node_set.specs.BallLaws.{length-sets}

pub returns-clause-growths : goal.returns-clause-growths
returns-clause-growths c = growths_bounded (sets c.args.balls.now) c.args.k c.requires.low c.requires.centred

pub returns-clause-homes : goal.returns-clause-homes
returns-clause-homes c =
    homes_hold (sets c.args.balls.now) c.args.k c.requires.low c.requires.centred (sym (length-sets c.args.balls.now))
    c.in_ok-cover.ensures.exact

pub returns-clause-apart : goal.returns-clause-apart
returns-clause-apart c =
    clusters_apart (sets c.args.balls.now) c.args.k (length c.args.balls.now) c.in_ok-cover.cover c.requires.low
    c.requires.centred
    c.in_ok-cover.ensures.exact
