use Rattle.std.proofs.lemmas.Grind.{common_steps}
use Rattle.std.proofs.Common.{arith}
use Rattle.distances.proofs.TakingBack.{fill_begins, fill_next, left_out_within}
use Rattle.distances.proofs.elimination.take_back_each.Goals as goal

pub loop-last-init : goal.loop-last-init
loop-last-init c =
    rw c.requires.back (fill_begins c.args.n c.args.width c.args.left_out.items c.args.table.now c.requires.count
    c.requires.light c.requires.left_out)

pub take_back-requires-clause-one : goal.take_back-requires-clause-one
take_back-requires-clause-one c =
    left_out_within c.args.n c.args.width c.args.left_out.items c.loop-last.left_out.items c.pop.new.self.items
    c.in-Some.last c.in-Some.ensures.items c.loop-last.back.items c.loop-last.table c.loop-last.invariant

pub loop-last-preserved : goal.loop-last-preserved
loop-last-preserved c =
    rw c.in_ok-push.ensures.items
    (fill_next c.args.n c.args.width c.args.left_out.items c.loop-last.left_out.items c.pop.new.self.items
    c.in-Some.last c.in-Some.ensures.items c.loop-last.back.items c.loop-last.table c.loop-last.invariant
    c.take_back.new.mine c.take_back.new.table (rw c.deref.ensures.value at c.take_back.ensures))

pub returns-in_err-push : goal.returns-in_err-push
returns-in_err-push c = grind (arith, common_steps)
