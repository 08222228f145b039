use Rattle.std.proofs.Common.{rules, ◌≤◌, arith}
use Rattle.std.proofs.lemmas.List.Elements.{All-replicate}
use Rattle.distances.specs.declared.weights.TheConstants.{FAR}
use Rattle.distances.proofs.Chunks.{span_is_pairs}
use Rattle.distances.proofs.Lowered.{lowered_light}
use Rattle.distances.proofs.near_nodes.lower_whole_row.Goals as goal

pub returns : goal.returns
returns c = search (rules, span_is_pairs)

pub lower_span-requires-clause-light : goal.lower_span-requires-clause-light
lower_span-requires-clause-light c =
    lowered_light FAR c.requires.mine (All-replicate (λ w. w ≤ FAR) c.args.n FAR (omega arith))
