use Rattle.std.proofs.lemmas.Grind.{common_steps}
use Rattle.std.proofs.Common.{ℕ, ap, length, arith}
use Rattle.make_load.specs.Draws.{draw}
use Rattle.make_load.proofs.Lists.{count-drawn}
use Rattle.make_load.proofs.workload.Workload.new.Goals as goal

pub draw_calls-requires-clause-subs : goal.draw_calls-requires-clause-subs
draw_calls-requires-clause-subs c = omega (
  arith,
  ap length c.deref_mut.ensures.value,
  c.in_ok-places.ensures.len,
  ap length c.deref.ensures.value,
  ap length c.in_ok-homes.ensures.value,
  count-drawn (λ (i : ℕ). draw c.args.load.nodes) 0 c.args.load.subs c.push_others.new.generator,
)

pub returns : goal.returns
returns c = grind (arith, common_steps)
