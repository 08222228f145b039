use Rattle.std.proofs.Common.{rules, arith}
use Rattle.std.proofs.lemmas.List.{take_all}
use Rattle.net_graph.specs.StartLaws.{no_starts, one_start, last_start}
use Rattle.net_graph.proofs.counting.sum_counts.Goals as goal

pub loop-count-init : goal.loop-count-init
loop-count-init c = record { starts = no_starts c.push.new.self.items (search rules); last = search rules }

pub loop-count-preserved : goal.loop-count-preserved
loop-count-preserved c = search (rules, one_start, last_start)

pub returns : goal.returns
returns c = grind (arith, take_all)
