use Rattle.std.proofs.Common.{◌<◌, ◌∙◌, subst, sym}
use Rattle.std.specs.Prelude.{All}
use Rattle.std.proofs.lemmas.List.Elements.{All-replicate}
use Rattle.region_plan.specs.Plan.{nodes_of}
use Rattle.actor_tests.proofs.cell_tests.cells_of.Goals as goal

pub new-requires-clause-inside : goal.new-requires-clause-inside
new-requires-clause-inside c =
    subst (All (λ home. home < nodes_of c.args.plan.now))
    (sym (c.deref.ensures.value ∙ c.in_ok-homes.ensures.items_if_clones_equal (λ y h. h)))
    (All-replicate (λ home. home < nodes_of c.args.plan.now) c.args.subs c.args.home c.requires.inside)
