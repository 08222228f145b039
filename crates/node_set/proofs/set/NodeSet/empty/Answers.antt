use Rattle.std.proofs.Common.{◌≡◌, replicate, refl}
use Rattle.node_set.proofs.Words.{no_bits}
use Rattle.node_set.proofs.set.NodeSet.empty.Goals as goal

pub returns : goal.returns
returns c =
    let zeros : c.in_ok-words.words.items ≡ replicate c.div_ceil.result 0 =
    c.in_ok-words.ensures.items_if_clones_equal (λ y e. e) in
    rw (zeros, no_bits c.div_ceil.result) refl
