use Rattle.std.proofs.lemmas.Grind.{common_steps}
use Rattle.std.proofs.Common.{arith, rules, ◌∙◌, ap, refl, sym}
use Rattle.handset.specs.Condition.{HandsetData}
use Rattle.handset.proofs.Going.{goes-next, erasing-is-late, purging-by-count}
use Rattle.handset.proofs.handset.Handset.step.Goals as goal

pub returns-in-Confirming-clause-goes : goal.returns-in-Confirming-clause-goes
returns-in-Confirming-clause-goes c =
    goes-next c.erasing_from-next.result c.requires.goes
    (ap (λ (h : HandsetData). h.stage) (sym c.self.view_is) ∙ c.in-Confirming.is) refl
    (rw c.erasing_from-next.ensures (erasing-is-late c.args.plan.now c.args.self.now 0)) c.go_on.ensures

pub returns-in-Erasing-clause-goes : goal.returns-in-Erasing-clause-goes
returns-in-Erasing-clause-goes c =
    goes-next c.erasing_from-next-in-Erasing.result c.requires.goes
    (ap (λ (h : HandsetData). h.stage) (sym c.self.view_is) ∙ c.in-Erasing.is) refl
    (rw c.erasing_from-next-in-Erasing.ensures (erasing-is-late c.args.plan.now c.args.self.now _))
    c.go_on-in-Erasing.ensures

pub returns-in-Purging-clause-goes : goal.returns-in-Purging-clause-goes
returns-in-Purging-clause-goes c =
    goes-next c.purging_from-next.result c.requires.goes
    (ap (λ (h : HandsetData). h.stage) (sym c.self.view_is) ∙ c.in-Purging.is) refl
    (rw c.purging_from-next.ensures (purging-by-count c.args.plan.now c.args.self.now _ c.requires.goes.trail))
    c.go_on-in-Purging.ensures

pub returns-in-Coming-clause-after : goal.returns-in-Coming-clause-after
returns-in-Coming-clause-after c = search rules

pub returns-in-Erasing-clause-exact : goal.returns-in-Erasing-clause-exact
returns-in-Erasing-clause-exact c = grind (arith, common_steps)

pub returns-in-Renewing : goal.returns-in-Renewing
returns-in-Renewing c = grind (arith, common_steps)
