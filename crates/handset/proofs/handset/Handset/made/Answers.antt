use Rattle.region_plan.specs.Settings.{setting_of}
use Rattle.handset.proofs.Made.{made-stands}
use Rattle.handset.proofs.handset.Handset.made.Goals as goal

pub returns-clause-stands : goal.returns-clause-stands
returns-clause-stands c = λ starts steps made stands.
    rw c.step.ensures.after
    (made-stands starts steps made c.mark_words.ensures.unpacked
    (c.levels_after_move.ensures.address (setting_of c.args.plan.now starts)) c.step.ensures.kept c.requires.goes
    c.requires.left stands)
