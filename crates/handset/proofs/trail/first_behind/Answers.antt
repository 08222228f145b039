use Rattle.std.proofs.Common.{◌∙◌, arith}
use Rattle.handset.proofs.Trails.{behind-next, flag-count, next-behind, none-behind}
use Rattle.handset.proofs.trail.first_behind.Goals as goal

pub returns-in_err-node : goal.returns-in_err-node
returns-in_err-node c =
    c.from_residual.ensures ∙ none-behind c.args.trail.now c.args.to c.args.from c.in_err-node.ensures.none

pub returns-then-node-to : goal.returns-then-node-to
returns-then-node-to c =
    next-behind c.args.trail.now c.args.to c.in_ok-node.ensures.some c.in_ok-node.ensures.below c.if-node-to.true

pub overflow_add-node : goal.overflow_add-node
overflow_add-node c = grind (arith, flag-count)

pub returns : goal.returns
returns c =
    behind-next c.args.trail.now c.next_from-2.result c.in_ok-node.ensures.some c.in_ok-node.ensures.below
    c.if-node-to.false c.next_from-2.ensures.some c.next_from-2.ensures.below c.next_from-2.ensures.none
