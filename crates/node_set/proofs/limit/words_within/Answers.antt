use Rattle.std.proofs.Common.{◌≡◌, ◌*◌, ◌/◌, length, arith}
use Rattle.node_set.proofs.Limiting.{block_more, word_more}
use Rattle.node_set.proofs.limit.words_within.Goals.{then-numbers-gt0+in_ok-push-2, else-numbers-gt0}
use Rattle.node_set.proofs.limit.words_within.Goals as goal

pub loop-block-preserved : goal.loop-block-preserved
loop-block-preserved c = rw c.in_ok-push.ensures.items
    (block_more c.loop-block.block c.block_within.result c.loop-block.invariant c.block_within.ensures)

pub returns : goal.returns
returns c =
    let numbers = c.args.numbers.now in
    let whole : c.loop-block.block ≡ length numbers / 64 =
    omega (arith, c.loop-block-test.false, c.loop-block.auto.block-end) in
    elim c.if-numbers-gt0.branch [
      | then-numbers-gt0+in_ok-push-2 w ↦
          rw (w.words-is, w.in_ok-push-2.ensures.items)
          (word_more numbers c.args.limit c.loop-block.block (length numbers) w.rest_within.result
          c.loop-block.words.items c.loop-block.invariant (omega (arith, whole, w.if-numbers-gt0.true))
          (omega (arith, whole)) (rw whole w.rest_within.ensures))
      | else-numbers-gt0 w ↦
          let all : 64 * c.loop-block.block ≡ length numbers = omega (arith, whole, w.if-numbers-gt0.false) in
          rw w.words-is (rw all at c.loop-block.invariant)
    ]
