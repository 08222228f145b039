use Rattle.std.proofs.Common.{◌≡◌, ◌-◌, ◌/◌, ◌++◌}
use Rattle.make_load.specs.Draws.{draw_list}
use Rattle.make_load.specs.Load.{other_edge}
use Rattle.make_load.proofs.draws.push_others.Given as goal

abbrev pub invariant-loop : goal.invariant-loop
invariant-loop l = record {
  value : l.edges.items ++ (draw_list (other_edge l.nodes) l.counter (l.nodes / 2 - l.counter) l.generator).value
      ≡ l.fn.edges.items ++ (draw_list (other_edge l.nodes) 0 (l.nodes / 2) l.fn.generator).value;
  left : (draw_list (other_edge l.nodes) l.counter (l.nodes / 2 - l.counter) l.generator).left
      ≡ (draw_list (other_edge l.nodes) 0 (l.nodes / 2) l.fn.generator).left;
}
