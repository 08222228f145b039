use Rattle.std.proofs.Common.{rules, ◌≡◌, arith, ◌∙◌, ap, subst, sym}
use Rattle.region_plan.specs.Settings.{setting_of}
use Rattle.handset.proofs.Begun.{begin-stands}
use Rattle.handset.specs.Condition.{GoesWith, HandsetData}
use Rattle.handset.proofs.Going.{goes-begun}
use Rattle.handset.proofs.handset.Handset.begin.Goals as goal
use Rattle.handset.specs.StageLaws.{rest-means}

pub returns-clause-goes : goal.returns-clause-goes
returns-clause-goes c =
    let number : c.args.self.now.number ≡ c.self.inside.number = ap (λ (h : HandsetData). h.number)
    (sym c.self.view_is) in
    let stage = ap (λ (h : HandsetData). h.stage) (sym c.self.view_is) in
    subst (GoesWith c.args.plan.now) (sym c.start.ensures)
    (goes-begun c.args.to c.nodes.ensures.sound c.requires.goes (omega arith)
    (stage ∙ rest-means c.self.inside.stage (sym c.is_rest.ensures ∙ c.if-not-is_rest.false)) (omega arith))

pub returns-clause-stands : goal.returns-clause-stands
returns-clause-stands c = λ starts steps made stands.
    rw c.start.ensures
    (begin-stands (setting_of c.args.plan.now starts) c.args.self.now steps made c.args.to
    (c.levels_after_move.ensures.address (setting_of c.args.plan.now starts)) (c.levels_after_move.ensures.gathered
    (setting_of c.args.plan.now starts))
    (omega (arith, c.nodes.ensures.sound.some, c.requires.goes.gathered))
    (ap (λ (h : HandsetData). h.stage) (sym c.self.view_is) ∙ rest-means c.self.inside.stage
    (sym c.is_rest.ensures ∙ c.if-not-is_rest.false)) (ap (λ (h : HandsetData). h.is_off) (sym c.self.view_is)
    ∙ c.if-self.false) stands)

pub returns-then-self-clause-faults : goal.returns-then-self-clause-faults
returns-then-self-clause-faults c = search rules
