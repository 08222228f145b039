use Rattle.std.proofs.Common.{◌/◌, ◌++◌}
use Rattle.make_load.specs.Draws.{draw_list}
use Rattle.make_load.specs.Load.{other_edge}
use Rattle.make_load.proofs.Lists.{next-left, next-value}
use Rattle.make_load.proofs.draws.push_others.Goals as goal

pub loop-preserved : goal.loop-preserved
loop-preserved c =
    let n = c.args.nodes in
    let all = draw_list (other_edge n) 0 (n / 2) c.args.generator.now in record {
      value = next-value (other_edge n) c.loop.counter (n / 2) c.loop.generator c.draw_other_edge.new.generator
          c.loop.edges.items c.push.new.self.items (c.args.edges.now.items ++ all.value) c.draw_other_edge.result
          c.loop-test.true c.draw_other_edge.ensures.value c.draw_other_edge.ensures.left c.in_ok-push.ensures.items
          c.loop.invariant.value;
      left = next-left (other_edge n) c.loop.counter (n / 2) c.loop.generator c.draw_other_edge.new.generator all.left
          c.loop-test.true c.draw_other_edge.ensures.left c.loop.invariant.left;
    }
