use Rattle.std.proofs.Common.{length, refl, arith}
use Rattle.region_plan.proofs.Rows.{readers_count}
use Rattle.region_plan.proofs.Measuring.{degree_step, degree_done, max_few}
use Rattle.region_plan.proofs.level.LevelTable.degree.Goals as goal

pub loop-v-preserved : goal.loop-v-preserved
loop-v-preserved c = record {
  most = degree_step c.args.self.now c.loop-v.v (omega (arith, readers_count c.self.view_is)) c.loop-v.invariant.most
      refl c.readers_at.ensures.numbers c.max-degree.ensures;
  few = max_few c.loop-v.degree (length c.readers_at.result.now) 1024 c.max-degree.ensures c.loop-v.invariant.few
      (omega (arith, c.readers_at.ensures.few));
}

pub returns-clause-exact : goal.returns-clause-exact
returns-clause-exact c = degree_done c.args.self.now c.loop-v.v (omega (arith, readers_count c.self.view_is))
    c.loop-v.invariant.most
