use Rattle.report_check.proofs.Blocking.{switch-lines}
use Rattle.report_check.proofs.blocks.LinesByActor.of_switches.Goals as goal

pub returns : goal.returns
returns c = switch-lines c.args.self.now.calls.now c.requires.switches
