use Rattle.std.proofs.Common.{◌∙◌}
use Rattle.report_check.specs.Parts.{at_start}
use Rattle.report_check.proofs.told.told_of.Goals as goal

pub returns : goal.returns
returns c = c.told_before.ensures ∙ c.of_actor.ensures.tells c.args.ticket (at_start c.args.start)
