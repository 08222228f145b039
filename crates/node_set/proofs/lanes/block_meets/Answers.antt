use Rattle.node_set.proofs.Blocks.{block_meet}
use Rattle.node_set.proofs.lanes.block_meets.Goals as goal

pub returns : goal.returns
returns c = block_meet c.args.a.now c.args.b.now c.args.at c.requires.a c.requires.b
