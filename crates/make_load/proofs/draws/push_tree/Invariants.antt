use Rattle.std.proofs.Common.{◌≡◌, ◌-◌, ◌++◌}
use Rattle.make_load.specs.Draws.{draw_list}
use Rattle.make_load.specs.Load.{tree_edge}
use Rattle.make_load.proofs.draws.push_tree.Given as goal

abbrev pub invariant-loop-node : goal.invariant-loop-node
invariant-loop-node l = record {
  value : l.edges.items ++ (draw_list tree_edge l.node (l.nodes - l.node) l.generator).value
      ≡ l.fn.edges.items ++ (draw_list tree_edge 1 (l.nodes - 1) l.fn.generator).value;
  left : (draw_list tree_edge l.node (l.nodes - l.node) l.generator).left
      ≡ (draw_list tree_edge 1 (l.nodes - 1) l.fn.generator).left;
}
