use Rattle.std.proofs.Common.{◌≡◌, ◌++◌, take, drop, arith, length}
use Rattle.node_set.specs.Lanes.{AreWordsJoined}
use Rattle.node_set.proofs.Words.{words-absorb, absorb_bits}
use Rattle.node_set.proofs.set.NodeSet.absorb.Goals as goal
use Rattle.node_set.proofs.set.NodeSet.absorb.Goals.{After-self-1}
use Rattle.std.proofs.lemmas.List.{take_at}

same_room : (c : After-self-1) → c.self.inside.room ≡ c.other.inside.room
same_room c = grind arith

joined : (c : After-self-1) → AreWordsJoined c.self.inside.words.items c.other.inside.words.items c.lanes_absorb.new.a
joined c = rw (c.deref_mut.ensures.value, c.deref.ensures.value) at c.lanes_absorb.ensures

-- the words were written over whole
written : (c : After-self-1) → take c.self.inside.words.len
    (c.lanes_absorb.new.a ++ drop (length c.lanes_absorb.new.a) c.self.inside.words.items) ≡ c.lanes_absorb.new.a
written c =
    grind (arith, take_at, joined)

pub invariant_of-self : goal.invariant_of-self
invariant_of-self c = rw (written c) (words-absorb c.self.invariant (rw (same_room c) c.other.invariant) (joined c))

pub returns : goal.returns
returns c =
    let same : length c.self.inside.words.items ≡ length c.other.inside.words.items = omega (arith, same_room c) in
    grind (arith, written, absorb_bits, joined)
