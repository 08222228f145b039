use Rattle.std.proofs.Common.{◌∙◌, Option, Some, None, refl, subst}
use Rattle.std.specs.Prelude.{IsSome, OnSome}
use Rattle.region_plan.specs.Settings.{setting_of}
use Rattle.handset.proofs.Made.{made-stands, next-stands}
use Rattle.handset.proofs.handset.Handset.write.Goals as goal

pub returns-clause-visit : goal.returns-clause-visit
returns-clause-visit c = λ starts steps made stands. c.step.ensures.exact
    ∙ next-stands (setting_of c.args.plan.now starts) c.args.self.now steps made stands

pub returns-clause-stands : goal.returns-clause-stands
returns-clause-stands c = where-some c.step.result (λ some starts steps made stands.
    rw c.step.ensures.after
    (made-stands starts steps made c.mark_words.ensures.unpacked
    (c.levels_after_move.ensures.address (setting_of c.args.plan.now starts)) c.step.ensures.kept c.requires.goes
    (subst IsSome c.step.ensures.exact some) stands))
  where
    where-some : {A : Type 0} {P : Type 0} (o : Option A) → (IsSome o → P) → OnSome o P
    where-some None law = tt
    where-some (Some x) law = law refl
