use Rattle.std.proofs.Common.{◌-◌, ◌++◌}
use Rattle.make_load.specs.Draws.{draw_list}
use Rattle.make_load.specs.Load.{tree_edge}
use Rattle.make_load.proofs.Lists.{next-left, next-value}
use Rattle.make_load.proofs.draws.push_tree.Goals as goal

pub loop-node-preserved : goal.loop-node-preserved
loop-node-preserved c =
    let loop = c.loop-node in
    let n = c.args.nodes in
    let all = draw_list tree_edge 1 (n - 1) c.args.generator.now in record {
      value = next-value tree_edge loop.node n loop.generator c.draw_tree_edge.new.generator loop.edges.items
          c.push.new.self.items (c.args.edges.now.items ++ all.value) c.draw_tree_edge.result c.loop-node-test.true
          c.draw_tree_edge.ensures.value c.draw_tree_edge.ensures.left c.in_ok-push.ensures.items loop.invariant.value;
      left = next-left tree_edge loop.node n loop.generator c.draw_tree_edge.new.generator all.left
          c.loop-node-test.true
          c.draw_tree_edge.ensures.left loop.invariant.left;
    }
