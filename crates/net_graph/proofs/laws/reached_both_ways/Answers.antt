use Rattle.std.proofs.Common.{rules}
use Rattle.net_graph.specs.WalkLaws.{walk_turned, walk-append}
use Rattle.net_graph.proofs.laws.reached_both_ways.Goals as goal

pub returns-clause-back : goal.returns-clause-back
returns-clause-back c = search (rules, walk_turned)

pub returns-clause-on : goal.returns-clause-on
returns-clause-on c = search (rules, walk-append)
