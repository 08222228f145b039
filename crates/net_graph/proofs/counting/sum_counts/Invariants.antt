use Rattle.std.proofs.Common.{◌≡◌, get_or, take}
use Rattle.net_graph.specs.Starts.{AreStarts}
use Rattle.net_graph.proofs.counting.sum_counts.Given as goal

abbrev pub invariant-loop-count : goal.invariant-loop-count
invariant-loop-count l = record {
  starts : AreStarts (take l.count-index l.counts) l.starts.items;
  last : get_or l.starts.items l.count-index 0 ≡ l.sum;
}
