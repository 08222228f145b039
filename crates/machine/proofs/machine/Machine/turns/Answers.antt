use Rattle.std.proofs.Common.{◌≡◌, ◌+◌, ◌-◌, arith, refl, subst}
use Rattle.machine.specs.Machines.{HasMade}
use Rattle.machine.proofs.Finishing.{made-idle, made-joined, made-none, same-through, turned-once}
use Rattle.machine.proofs.machine.Machine.turns.Goals as goal

pub returns-then-count-eq1-clause-stands : goal.returns-then-count-eq1-clause-stands
returns-then-count-eq1-clause-stands c = λ history is.
    rw c.if-count-eq1.true
    (turned-once c.stride.result c.stride.ensures.few (c.stride.ensures.stands history is)).stands

pub returns-then-count-eq1-clause-made : goal.returns-then-count-eq1-clause-made
returns-then-count-eq1-clause-made c = λ history is.
    rw c.if-count-eq1.true
    (turned-once c.stride.result c.stride.ensures.few (c.stride.ensures.stands history is)).made

pub turns-init : goal.turns-init
turns-init c = record {
  same = (refl, refl, refl, refl, refl, refl, refl);
  few = omega arith;
  stands = λ history is.
      let none : c.args.count - c.args.count ≡ 0 = omega arith in rw none (made-none c.args.actor is);
}

pub returns-then-made-eq0-clause-stands : goal.returns-then-made-eq0-clause-stands
returns-then-made-eq0-clause-stands c = λ history is.
    let made = c.turns.invariant.stands history is in
    (made-idle c.args.count c.turns.invariant.same made (c.stride-made.ensures.stands _ made.stands) c.if-made-eq0.true
    (omega arith)).0

pub returns-then-made-eq0-clause-made : goal.returns-then-made-eq0-clause-made
returns-then-made-eq0-clause-made c = λ history is.
    let made = c.turns.invariant.stands history is in
    (made-idle c.args.count c.turns.invariant.same made (c.stride-made.ensures.stands _ made.stands) c.if-made-eq0.true
    (omega arith)).1

pub turns-preserved : goal.turns-preserved
turns-preserved c = record {
  same = same-through c.args.self.now c.turns.self c.stride-made.new.self c.turns.invariant.same
      c.stride-made.ensures.same;
  few = omega (arith, c.turns.invariant.few);
  stands = λ history is.
      let made = c.turns.invariant.stands history is in
      let all : c.args.count - c.turns.left + c.stride-made.result
      ≡ c.args.count - (c.turns.left - c.stride-made.result) =
      omega (arith, c.turns.invariant.few, c.stride-made.ensures.few) in
      subst (HasMade c.args.self.now c.stride-made.new.self history c.args.actor) all
      (made-joined c.turns.invariant.same made (c.stride-made.ensures.stands _ made.stands).0);
}

pub returns-clause-stands : goal.returns-clause-stands
returns-clause-stands c = λ history is.
    let all : c.args.count - c.turns.left ≡ c.args.count = omega (arith, c.turns-test.false) in
    rw all at (c.turns.invariant.stands history is).stands
