use Rattle.std.proofs.Common.{rules, sym, ap, ◌∙◌}
use Rattle.region_plan.specs.Settings.{setting_of}
use Rattle.scripts.specs.Scripts.{most_of}
use Rattle.machine.proofs.room.most_of.Goals as goal

pub returns-in-Move : goal.returns-in-Move
returns-in-Move c = λ starts. c.most_writes.ensures starts
    ∙ ap (most_of (setting_of c.args.plan.now starts)) (sym c.in-Move.is)

pub returns-in-Off : goal.returns-in-Off
returns-in-Off c = search rules
