use Rattle.std.proofs.Common.{◌<◌, arith}
use Rattle.std.proofs.lemmas.List.Elements.{All-replicate}
use Rattle.region_plan.specs.Plan.{nodes_of}
use Rattle.text_tests.proofs.census_tests.is_crowd.Goals as goal

pub new-requires-clause-inside : goal.new-requires-clause-inside
new-requires-clause-inside g c =
    All-replicate (λ home. home < nodes_of c.args.plan.now) 64 1 (omega (arith, c.requires.nodes))
