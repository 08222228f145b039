use Rattle.std.proofs.Common.{◌≡◌, ◌-◌, ◌++◌, ap, subst, ◌∙◌, arith}
use Rattle.std.specs.Prelude.{IfSome}
use Rattle.report_text.specs.Written.{clusters_left, levels_left}
use Rattle.report_text.proofs.Bodies.{again}
use Rattle.report_text.proofs.plan.is_body_of.Goals as goal

pub returns-in-Some-eq1 : goal.returns-in-Some-eq1
returns-in-Some-eq1 c = λ yes.
    let plan = c.args.plan.now in
    let body = c.args.kept.now.body.items in
    let below : c.in-Some.below ≡ c.args.level - 1 = omega (arith, c.in-Some-eq1.ensures, c.in-Some-eq1.field-0-is) in
    again plan c.args.level body
    (subst (λ level. IfSome level (λ i. body ++ levels_left plan c.args.level ≡ clusters_left plan i 0)) c.in-Some.is
    c.requires.keeps.whole ∙ ap (λ i. clusters_left plan i 0) below)
    (c.repeats.ensures yes)
