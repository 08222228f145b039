use Rattle.std.proofs.Common.{◌<◌}
use Rattle.std.proofs.lemmas.List.Elements.{All-replicate}
use Rattle.region_plan.specs.Plan.{nodes_of}
use Rattle.tracker_tests.proofs.room_tests.open_all.Goals as goal

pub new-requires-clause-inside : goal.new-requires-clause-inside
new-requires-clause-inside g c =
    All-replicate (λ home. home < nodes_of c.args.plan.now) 64 c.args.home c.requires.inside
