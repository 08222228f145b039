use Rattle.std.proofs.Common.{◌+◌, ◌-◌, arith}
use Rattle.distances.specs.declared.weights.TheConstants.{FAR}
use Rattle.distances.proofs.Chunks.{chunk_lowered, lanes_count, lanes_light}
use Rattle.distances.proofs.weights.lower_chunk.Goals as goal

pub returns : goal.returns
returns c = chunk_lowered c.args.weights.now c.args.row.now c.args.place c.args.from c.args.by (omega arith)
    (omega arith) c.requires.place c.requires.from c.more_lanes-through.ensures c.lesser_lanes.ensures

pub more_lanes-through-requires-clause-light : goal.more_lanes-through-requires-clause-light
more_lanes-through-requires-clause-light c =
    lanes_light c.args.row.now c.args.from (c.args.from + 16 - c.args.from) (omega arith) c.requires.from FAR
    c.requires.light

pub more_lanes-through-requires-clause-count : goal.more_lanes-through-requires-clause-count
more_lanes-through-requires-clause-count c =
    lanes_count c.args.row.now c.args.from (c.args.from + 16 - c.args.from) (omega arith) c.requires.from
