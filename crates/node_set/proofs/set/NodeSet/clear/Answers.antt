use Rattle.std.proofs.Common.{refl}
use Rattle.node_set.proofs.Words.{no_bits}
use Rattle.node_set.proofs.set.NodeSet.clear.Goals as goal

pub returns : goal.returns
returns c = rw (← c.self.view_is, c.fill.ensures.items (λ y e. e), no_bits c.self.inside.words.len) refl
