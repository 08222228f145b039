use Rattle.std.proofs.Common.{ap, arith, length}
use Rattle.move_cost.proofs.Readers.{few-read, search-ends, search-finds}
use Rattle.move_cost.proofs.weights.weight_inside.Goals as goal

pub overflow_cast-place : goal.overflow_cast-place
overflow_cast-place c = omega (
  arith,
  c.in-Ok.ensures.bound,
  ap length c.readers.ensures,
  few-read c.args.plan.now c.args.level c.args.cluster c.args.node c.plan_is_sound.ensures.matched c.requires.level
      c.requires.node c.plan_is_sound.ensures.sound,
)

pub unreachable-requires : goal.unreachable-requires
unreachable-requires c =
    search-ends c.args.plan.now c.args.level c.args.cluster c.args.node c.plan_is_sound.ensures.matched c.requires.level
    c.requires.node c.readers.result.now c.in-Err.field-0 c.readers.ensures c.requires.cluster c.requires.member
    c.in-Err.ensures.position

pub returns : goal.returns
returns c =
    let found = search-finds c.args.plan.now c.args.level c.args.cluster c.args.node c.plan_is_sound.ensures.matched
    c.requires.level c.requires.node c.readers.result.now c.in-Ok.place c.readers.ensures c.requires.cluster
    c.requires.member c.in-Ok.ensures.position in
    grind arith
