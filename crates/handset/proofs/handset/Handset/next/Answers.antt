use Rattle.std.proofs.Common.{◌∙◌}
use Rattle.region_plan.specs.Settings.{setting_of}
use Rattle.handset.proofs.Made.{next-stands}
use Rattle.handset.proofs.handset.Handset.next.Goals as goal

pub returns-clause-stands : goal.returns-clause-stands
returns-clause-stands c = λ starts steps made stands. c.due.ensures
    ∙ next-stands (setting_of c.args.plan.now starts) c.args.self.now steps made stands
