use Rattle.std.proofs.Common.{◌≡◌, arith}
use Rattle.node_set.proofs.Words.{meet_bits}
use Rattle.node_set.proofs.set.NodeSet.meets.Goals as goal

pub returns : goal.returns
returns c =
    let rooms : c.self.inside.room ≡ c.other.inside.room = grind arith in
    rw (← c.self.view_is, ← c.other.view_is) (meet_bits c.self.inside.words.items c.other.inside.words.items
    (omega arith) (rw (c.deref.ensures.value, c.deref-2.ensures.value) at c.lanes_meet.ensures))
