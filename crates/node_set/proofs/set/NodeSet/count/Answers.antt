use Rattle.std.proofs.Common.{◌<◌, ◌≤◌, ◌+◌, ◌^◌, arith, ap, length, get_or}
use Rattle.std.specs.Int.Count.{ones}
use Rattle.node_set.proofs.Words.{count_word, count_fits}
use Rattle.node_set.proofs.set.NodeSet.count.Goals as goal

pub overflow_add-total : goal.overflow_add-total
overflow_add-total c =
    let few : c.loop-word.word-index < 16 = omega (arith, ap length c.deref-word-items.ensures.value) in
    let word : get_or c.deref-word-items.result.now c.loop-word.word-index 0 < 2 ^ 64 =
    omega (arith, c.type_inv.word-items c.loop-word.word-index) in
    let bound : c.loop-word.total + ones (get_or c.deref-word-items.result.now c.loop-word.word-index 0) ≤ 1024 =
    count_fits c.deref-word-items.result.now c.loop-word.word-index few word c.loop-word.invariant
    in
    omega arith

pub loop-word-preserved : goal.loop-word-preserved
loop-word-preserved c =
    let word : get_or c.deref-word-items.result.now c.loop-word.word-index 0 < 2 ^ 64 =
    omega (arith, c.type_inv.word-items c.loop-word.word-index) in
    count_word c.deref-word-items.result.now c.loop-word.word-index word c.loop-word.invariant
