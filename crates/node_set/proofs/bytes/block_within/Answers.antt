use Rattle.std.proofs.Common.{ap, ◌∙◌}
use Rattle.std.specs.Prelude.{nat_le}
use Rattle.std.proofs.lemmas.Simd.{get_or-chunk}
use Rattle.node_set.proofs.bytes.block_within.Goals as goal

pub returns : goal.returns
returns c = λ i h. c.lanes_within.ensures i h
    ∙ ap (λ n. nat_le n c.args.limit) (get_or-chunk c.args.at 64 c.args.bytes.now i 0 h)
