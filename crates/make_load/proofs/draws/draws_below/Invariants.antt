use Rattle.std.proofs.Common.{◌≡◌, ◌-◌, ◌++◌}
use Rattle.make_load.specs.Draws.{draw, draw_list}
use Rattle.make_load.proofs.draws.draws_below.Given as goal

abbrev pub invariant-loop : goal.invariant-loop
invariant-loop l = record {
  value : l.numbers.items ++ (draw_list (λ number. draw l.m) l.counter (l.count - l.counter) l.generator).value
      ≡ (draw_list (λ number. draw l.m) 0 l.count l.fn.generator).value;
  left : (draw_list (λ number. draw l.m) l.counter (l.count - l.counter) l.generator).left
      ≡ (draw_list (λ number. draw l.m) 0 l.count l.fn.generator).left;
}
