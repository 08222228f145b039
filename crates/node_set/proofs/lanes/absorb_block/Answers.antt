use Rattle.node_set.proofs.Blocks.{block_joined}
use Rattle.node_set.proofs.lanes.absorb_block.Goals as goal

pub returns : goal.returns
returns c = block_joined c.args.a.now c.args.b.now c.args.at c.requires.a c.requires.b
