use Rattle.std.proofs.Common.{map, arith}
use Rattle.std.proofs.lemmas.List.{length-map, take_all}
use Rattle.region_plan.specs.Measures.{degree_in}
use Rattle.region_plan.proofs.Measuring.{level_step, max_few}
use Rattle.region_plan.proofs.plan.Plan.of_levels.Goals as goal

pub loop-i-preserved : goal.loop-i-preserved
loop-i-preserved c = record {
  most = level_step c.args.levels c.loop-i.i (omega (arith, c.loop-i-test.true)) c.loop-i.invariant.most
      c.table.ensures c.degree.ensures.exact c.max-degree.ensures;
  few = max_few c.loop-i.degree c.degree.result 1024 c.max-degree.ensures c.loop-i.invariant.few
      c.degree.ensures.few;
}

pub invariant_of-result : goal.invariant_of-result
invariant_of-result c = record {
  kept = c.requires.kept;
  matched = c.requires.matched;
  reached = c.requires.reached;
  degree = rw (take_all c.loop-i.i (map degree_in c.args.levels)
      (omega (arith, c.loop-i-test.false, c.count-i-end.ensures, length-map c.args.levels degree_in)))
      at c.loop-i.invariant.most;
  light = c.loop-i.invariant.few;
}
