use Rattle.std.proofs.Common.{rules, arith}
use Rattle.std.proofs.lemmas.List.{take_all}
use Rattle.net_graph.specs.StartLaws.{no_starts, one_start, last_start}
use Rattle.region_plan.proofs.Gathering.{count_few}
use Rattle.region_plan.proofs.readers.sum_counts.Goals as goal

pub loop-count-init : goal.loop-count-init
loop-count-init c = search (rules, no_starts)

pub overflow_add-sum : goal.overflow_add-sum
overflow_add-sum c = grind (arith, count_few)

pub loop-count-preserved : goal.loop-count-preserved
loop-count-preserved c = record {
  starts = one_start c.args.counts.now c.loop-count.starts.items c.loop-count.count-index c.loop-count.sum
      c.loop-count-test.true c.loop-count.invariant.starts c.loop-count.invariant.last
      c.push-in-loop-count.new.self.items c.in_ok-push-2.ensures.items;
  last = last_start c.args.counts.now c.loop-count.starts.items c.loop-count.count-index c.loop-count.sum
      c.loop-count-test.true c.loop-count.invariant.starts c.loop-count.invariant.last
      c.push-in-loop-count.new.self.items c.in_ok-push-2.ensures.items;
  few = grind (arith, count_few);
}

pub returns : goal.returns
returns c = search (rules, take_all)
