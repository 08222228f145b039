use Rattle.std.proofs.Common.{◌∙◌}
use Rattle.report_check.proofs.told.is_switch_among.Goals as goal

pub returns : goal.returns
returns c = c.is_switch.ensures ∙ c.of_switches.ensures c.args.ticket
