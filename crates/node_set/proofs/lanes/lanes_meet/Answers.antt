use Rattle.std.proofs.Common.{◌*◌, ◌+◌, ◌/◌, arith, length, refl}
use Rattle.node_set.proofs.Blocks.{all_meet, some_meet}
use Rattle.node_set.proofs.lanes.lanes_meet.Goals as goal

pub returns-then-block_meets : goal.returns-then-block_meets
returns-then-block_meets c = (
  λ h. some_meet c.args.a.now c.args.b.now (4 * c.loop-block.block) (4 * c.loop-block.block + 4)
      (λ k. omega (arith, c.type_inv.a k)) (omega arith) (c.block_meets.ensures.0 c.if-block_meets.true),
  λ h. refl,
)

pub returns : goal.returns
returns c =
    all_meet c.args.a.now c.args.b.now (4 * (length c.args.a.now / 4)) (λ k. omega (arith, c.type_inv.a k))
    (λ k h. c.loop-block.invariant k (omega arith)) c.rest_meets.ensures
