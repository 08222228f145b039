use Rattle.std.proofs.Common.{◌≡◌, ◌/◌, ℕ, length, refl, ◌∙◌, arith}
use Rattle.std.proofs.lemmas.List.{take_more_set}
use Rattle.node_set.proofs.Limiting.{all_filled, block_more, last_filled}
use Rattle.node_set.proofs.bytes.fill_words.Goals as goal

pub loop-block-preserved : goal.loop-block-preserved
loop-block-preserved c =
    rw (take_more_set c.loop-block.words c.loop-block.block c.block_within.result
    (omega (arith, c.loop-block.auto.words, c.requires, c.loop-block-test.true)))
    (block_more c.loop-block.block c.block_within.result c.loop-block.invariant c.block_within.ensures)

pub returns-then-bytes-gt0 : goal.returns-then-bytes-gt0
returns-then-bytes-gt0 c =
    let n : ℕ = length c.args.bytes.now in
    let last : c.loop-block.block ≡ n / 64 = omega (arith, c.loop-block.auto.block-end, c.loop-block-test.false) in
    last_filled c.args.bytes.now c.args.limit (n / 64) c.loop-block.words (c.loop-block.auto.words ∙ c.requires) refl
    (rw last at c.loop-block.invariant) c.rest_within.result c.if-bytes-gt0.true c.rest_within.ensures

pub returns-else-bytes-gt0 : goal.returns-else-bytes-gt0
returns-else-bytes-gt0 c =
    all_filled c.args.bytes.now c.args.limit c.loop-block.block c.loop-block.words
    (c.loop-block.auto.words ∙ c.requires) (omega (arith, c.loop-block.auto.block-end, c.loop-block-test.false))
    c.loop-block.invariant (omega (arith, c.if-bytes-gt0.false))
