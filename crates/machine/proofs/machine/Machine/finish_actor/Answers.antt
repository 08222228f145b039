use Rattle.std.proofs.Common.{◌≡◌, ◌+◌, arith}
use Rattle.machine.proofs.Finishing.{made-joined, same-through, turns-ended as ended, visits-fewer}
use Rattle.machine.proofs.machine.Machine.finish_actor.Goals as goal

pub turns-smaller : goal.turns-smaller
turns-smaller c =
    let far = c.turns.invariant.stands c.requires.stands.0 c.requires.stands.1 in
    visits-fewer c.visits_are_few.ensures c.stride.ensures.same far.1.stands
    (c.stride.ensures.stands _ far.1.stands).0 (omega (arith, c.turns-test.true))

pub turns-preserved : goal.turns-preserved
turns-preserved c = record {
  same = same-through c.args.self.now c.turns.self c.stride.new.self c.turns.invariant.same c.stride.ensures.same;
  stands = λ history is.
      let far = c.turns.invariant.stands history is in (
        far.0 + c.stride.result,
        made-joined c.turns.invariant.same far.1 (c.stride.ensures.stands _ far.1.stands).0,
      );
}

pub returns-clause-stands : goal.returns-clause-stands
returns-clause-stands c history is =
    let far = c.turns.invariant.stands history is in
    let none : c.stride.result ≡ 0 = omega (arith, c.turns-test.false) in
    let made = c.stride.ensures.stands _ far.1.stands in
    ended c.turns_are_few.ensures.alike c.args.self.now c.turns.self c.stride.new.self history c.args.actor far.0
    c.turns.invariant.same is (made.1 none).0 (rw none at made.0.stands)
