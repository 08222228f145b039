use Rattle.std.proofs.Common.{◌≡◌, ap, arith}
use Rattle.node_set.specs.Nodes.{Nodes}
use Rattle.node_set.proofs.Words.{words-insert, insert_bit}
use Rattle.node_set.proofs.set.NodeSet.insert.Goals as goal

pub invariant_of-self : goal.invariant_of-self
invariant_of-self c =
    let room : c.self.inside.room ≡ c.args.self.now.room = ap (λ (s : Nodes). s.room) c.self.view_is in
    words-insert c.args.v c.self.invariant (omega arith) (omega arith) c.index_mut.ensures.value

pub returns : goal.returns
returns c =
    let room : c.self.inside.room ≡ c.args.self.now.room = ap (λ (s : Nodes). s.room) c.self.view_is in
    grind (arith, insert_bit)
