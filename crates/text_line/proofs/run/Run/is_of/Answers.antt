use Rattle.std.proofs.Common.{◌≡◌, ap, replicate, rules, ◌∙◌}
use Rattle.std.proofs.lemmas.Bool.{eqb-true}
use Rattle.outside.specs.Texts.{fields}
use Rattle.text_line.proofs.run.Run.is_of.Goals as goal

pub returns-in-Some : goal.returns-in-Some
returns-in-Some c =
    let kept : c.args.self.now.text.items ≡ fields (replicate 64 c.in-Some.kept) = search rules in
    λ same. kept ∙ ap (λ actor. fields (replicate 64 actor)) (eqb-true _ _ same)
