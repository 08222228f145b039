use Rattle.std.proofs.Common.{rules}
use Rattle.net_graph.specs.WalkLaws.{least_everywhere, unreached_everywhere}
use Rattle.net_graph.proofs.laws.all_allowed_is_everywhere.Goals as goal

pub returns : goal.returns
returns c = search (rules, least_everywhere, unreached_everywhere)
