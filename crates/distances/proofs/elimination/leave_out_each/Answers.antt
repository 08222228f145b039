use Rattle.std.proofs.Common.{rules}
use Rattle.distances.proofs.LeavingOut.{fewer_left, none_left_in, leaving_begins, leaving_ends, leaving_next, row_ends}
use Rattle.distances.proofs.elimination.leave_out_each.Goals as goal

pub loop-node-init : goal.loop-node-init
loop-node-init c = search (rules, leaving_begins)

pub loop-node-preserved : goal.loop-node-preserved
loop-node-preserved c =
    leaving_next c.requires.wide
    (record { node = c.in-Some.node; near = c.in_ok-near.near }) c.loop-node.invariant c.in-Some.ensures
    c.in_ok-near.ensures c.deref.ensures.value c.lower_pairs.ensures c.in_ok-push.ensures.items

pub returns-clause-left_out : goal.returns-clause-left_out
returns-clause-left_out c =
    leaving_ends c.loop-node.invariant (none_left_in c.loop-node.left c.in_default.ensures)

pub slice_bounds-near_of-end : goal.slice_bounds-near_of-end
slice_bounds-near_of-end c =
    row_ends c.requires.wide c.loop-node.invariant c.in-Some.node c.in-Some.ensures.1

pub loop-node-smaller : goal.loop-node-smaller
loop-node-smaller c = fewer_left c.loop-node.left c.in-Some.node c.in-Some.ensures.1

pub lower_pairs-requires : goal.lower_pairs-requires
lower_pairs-requires c = search rules
