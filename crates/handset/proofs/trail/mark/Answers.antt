use Rattle.std.proofs.Common.{arith}
use Rattle.handset.proofs.Trails.{flag-count, flags-more}
use Rattle.handset.proofs.trail.mark.Goals as goal

pub insert-requires : goal.insert-requires
insert-requires c = omega (arith, c.requires, flag-count c.args.trail.now)

pub returns : goal.returns
returns c = grind (arith, flag-count, flags-more)
