use Rattle.std.proofs.Common.{arith, refl}
use Rattle.machine.proofs.Rests.{has-none, refilled, some-there}
use Rattle.machine.proofs.subscriber.Subscriber.has_ahead.Goals as goal

pub returns-then-len-capacity-clause-none : goal.returns-then-len-capacity-clause-none
returns-then-len-capacity-clause-none c = λ off. (
  refl,
  omega (arith, c.if-self-len.false, c.len.ensures),
  has-none c.args.plan.now c.args.self.now.handset
      (c.requires.rests (omega (arith, c.if-len-capacity.true, c.len-2.ensures, c.capacity.ensures))),
)

pub returns-clause-stands : goal.returns-clause-stands
returns-clause-stands c = grind (arith, refilled)

pub returns-clause-some : goal.returns-clause-some
returns-clause-some c = λ on.
    some-there c.fill.new.ahead.items c.fill.ensures.rests c.next.ensures.exact c.if-is_none.ensures
