use Rattle.std.proofs.Common.{◌<◌, ◌/◌, ap, arith, length}
use Rattle.node_set.specs.Nodes.{Nodes}
use Rattle.node_set.proofs.Words.{has_word}
use Rattle.node_set.proofs.set.NodeSet.has.Goals as goal

pub returns : goal.returns
returns c =
    let within : c.args.v / 64 < length c.self.inside.words.items =
    omega (arith, ap (λ (s : Nodes). s.room) c.self.view_is) in
    rw (← c.self.view_is) (has_word c.self.inside.words.items c.args.v within c.index.ensures)
