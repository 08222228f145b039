use Rattle.std.proofs.Common.{arith}
use Rattle.station.proofs.Laying.{first_laid, opening_of}
use Rattle.station.proofs.opening.lay_words.Goals as goal

pub lay_locks-requires-clause-laid : goal.lay_locks-requires-clause-laid
lay_locks-requires-clause-laid c = grind (arith, first_laid)

pub returns : goal.returns
returns c = record {
  opening = opening_of c.args.plan.now c.args.homes.now c.in_ok-lay_entries.ensures.laid c.in_ok-lay_entries.ensures.at;
}
