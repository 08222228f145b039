use Rattle.std.proofs.Common.{◌≡◌, ℕ, length, sym, ap, ◌∙◌, subst}
use Rattle.net_reader.specs.declared.input.Input.{Input}
use Rattle.visit_log.specs.Cells.{GoWith}
use Rattle.region_plan.specs.Cells.{IsCell}
use Rattle.actor_tests.proofs.turn_tests.word_in.Goals as goal

pub look-requires-clause-goes : goal.look-requires-clause-goes
look-requires-clause-goes c =
    subst (GoWith c.args.plan.now) (sym c.cells.ensures)
    (subst (λ plan. GoWith plan c.args.machine.now.cells) c.requires.plan c.requires.stands.1.sees.goes)

pub look-requires-clause-cell : goal.look-requires-clause-cell
look-requires-clause-cell c =
    let cells = c.args.machine.now.cells in
    let subs : ℕ = cells.subs in
    let count : subs ≡ length c.args.input.now.homes.items =
    c.requires.stands.1.sees.hold.subs ∙ ap (λ (input : Input). length input.homes.items) c.requires.input in
    subst (λ kept. IsCell c.args.plan.now kept.subs c.args.key) (sym c.cells.ensures)
    (subst (λ n. IsCell c.args.plan.now n c.args.key) (sym count) c.requires.cell)
