use Rattle.std.proofs.Common.{rules}
use Rattle.report_check.proofs.Blocking.{actor-any, actor-lines}
use Rattle.report_check.proofs.blocks.LinesByActor.of_actor.Goals as goal

pub returns-in-Some-clause-tells : goal.returns-in-Some-clause-tells
returns-in-Some-clause-tells c =
    actor-lines c.args.actor c.in-Some.block.now c.requires (search rules) (search rules)

pub returns-in-Some-clause-some : goal.returns-in-Some-clause-some
returns-in-Some-clause-some c =
    actor-any c.args.actor c.in-Some.block.now c.requires (search rules) (search rules)
