use Rattle.std.proofs.Common.{◌++◌, ◌∷◌, [], ◌∙◌, ap, subst, sym}
use Rattle.handset.specs.declared.stage.Stage.TheVariants.{Switching}
use Rattle.handset.specs.Condition.{HandsetData}
use Rattle.handset.specs.Stands.{StandsForSteps, switch_to}
use Rattle.handset.proofs.Begun.{switch-stands}
use Rattle.handset.proofs.handset.Handset.switch.Goals as goal
use Rattle.handset.specs.StageLaws.{rest-means}

pub returns-clause-stands : goal.returns-clause-stands
returns-clause-stands c = λ setting steps made stands.
    subst (λ (h : HandsetData). StandsForSteps setting (record h { stage = Switching c.args.off })
    (steps ++ switch_to c.args.off ∷ []) made) (sym c.self.view_is)
    (switch-stands setting c.args.self.now steps made c.args.off
    (ap (λ (h : HandsetData). h.stage) (sym c.self.view_is) ∙ rest-means c.self.inside.stage
    (sym c.is_rest.ensures ∙ c.if-not-is_rest.false)) stands)
