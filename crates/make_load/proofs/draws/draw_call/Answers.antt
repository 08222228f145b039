use Rattle.std.proofs.Common.{ap, sym, ◌∙◌}
use Rattle.make_load.specs.Load.{DrawnCall}
use Rattle.make_load.proofs.Lists.{find-is}
use Rattle.make_load.proofs.draws.draw_call.Goals as goal

pub returns-else-is_move-clause-call : goal.returns-else-is_move-clause-call
returns-else-is_move-clause-call c =
    let places = c.args.places.now in
    c.draw_find.ensures.call places ∙ ap (λ (d : DrawnCall). d.call) (find-is c.args.load.now c.args.j places
    c.args.generator.now (sym c.is_move.ensures ∙ c.if-is_move.false))

pub returns-else-is_move-clause-left : goal.returns-else-is_move-clause-left
returns-else-is_move-clause-left c =
    let places = c.args.places.now in
    c.draw_find.ensures.left places ∙ ap (λ (d : DrawnCall). d.left) (find-is c.args.load.now c.args.j places
    c.args.generator.now (sym c.is_move.ensures ∙ c.if-is_move.false))
