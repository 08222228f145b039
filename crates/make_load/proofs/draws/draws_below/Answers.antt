use Rattle.std.proofs.Common.{ℕ}
use Rattle.rand_pcg.specs.Lcg.{Lcg}
use Rattle.make_load.specs.Draws.{Drawn, draw, draw_list}
use Rattle.make_load.proofs.Lists.{next-left, next-value}
use Rattle.make_load.proofs.draws.draws_below.Goals as goal

pub loop-preserved : goal.loop-preserved
loop-preserved c =
    let n = c.args.count in
    let item : ℕ → Lcg → Drawn ℕ = λ number. draw c.args.m in
    let all = draw_list item 0 n c.args.generator.now in record {
      value = next-value item c.loop.counter n c.loop.generator c.draw.new.generator c.loop.numbers.items
          c.push.new.self.items all.value c.draw.result c.loop-test.true c.draw.ensures.value c.draw.ensures.left
          c.in_ok-push.ensures.items c.loop.invariant.value;
      left = next-left item c.loop.counter n c.loop.generator c.draw.new.generator all.left c.loop-test.true
          c.draw.ensures.left c.loop.invariant.left;
    }
