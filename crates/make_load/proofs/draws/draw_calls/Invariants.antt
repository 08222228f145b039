use Rattle.std.proofs.Common.{◌≡◌, ◌-◌, ◌++◌, length}
use Rattle.make_load.specs.Load.{drawn_calls}
use Rattle.make_load.proofs.draws.draw_calls.Given as goal

abbrev pub invariant-loop-j : goal.invariant-loop-j
invariant-loop-j l = record {
  subs : length l.places ≡ l.load.subs;
  value : l.calls.items ++ (drawn_calls l.load l.j (l.load.calls - l.j) l.places l.generator).value
      ≡ (drawn_calls l.load 0 l.load.calls l.fn.places l.fn.generator).value;
  left : (drawn_calls l.load l.j (l.load.calls - l.j) l.places l.generator).left
      ≡ (drawn_calls l.load 0 l.load.calls l.fn.places l.fn.generator).left;
}
