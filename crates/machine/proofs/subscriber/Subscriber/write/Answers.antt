use Rattle.std.proofs.lemmas.Grind.{common_steps}
use Rattle.std.proofs.Common.{arith, refl, ◌∙◌}
use Rattle.machine.proofs.Making.{made-next, made-none, may-follow, turns-behind}
use Rattle.machine.proofs.Written.{ended, none-written}
use Rattle.machine.proofs.subscriber.Subscriber.write.Goals as goal

pub writes-init : goal.writes-init
writes-init g c = record {
  few = omega arith;
  still = λ none. (refl, refl);
  written = λ history sees place its. made-none _ sees its;
}

pub write_plain-made-requires-clause-stands : goal.write_plain-made-requires-clause-stands
write_plain-made-requires-clause-stands g c =
    may-follow c.requires.stands c.writes.invariant.written

pub write_one-requires-clause-stands : goal.write_one-requires-clause-stands
write_one-requires-clause-stands g c =
    may-follow c.requires.stands (turns-behind c.writes.invariant.written c.write_plain-made.ensures.made)

pub returns-then-made-most-clause-taken : goal.returns-then-made-most-clause-taken
returns-then-made-most-clause-taken g c = λ history sees place its. (
  turns-behind c.writes.invariant.written c.write_plain-made.ensures.made history sees place its,
  λ fewer. absurd (omega (arith, fewer, c.if-made-most.true)),
)

pub returns-then-made-most-clause-still : goal.returns-then-made-most-clause-still
returns-then-made-most-clause-still g c = λ none.
    let before = c.writes.invariant.still (omega (arith, none)) in
    let last = c.write_plain-made.ensures.still (omega (arith, none)) in (last.0 ∙ before.0, last.1 ∙ before.1)

pub writes-preserved : goal.writes-preserved
writes-preserved g c = record {
  few = omega (arith, c.writes-test.true, c.write_plain-made.ensures.few, c.if-made-most.false);
  still = λ none. absurd (omega (arith, none));
  written = λ history sees place its.
      turns-behind (turns-behind c.writes.invariant.written c.write_plain-made.ensures.made)
      (λ later sight at is. made-next c.each_visit_is_next.ensures.more c.next_is_own.ensures _ sight
      (c.in-Visited.ensures later sight at is)) history sees place its;
}

pub returns-in-Finished-clause-taken : goal.returns-in-Finished-clause-taken
returns-in-Finished-clause-taken g c = λ history sees place its.
    ended c.args.most place (turns-behind c.writes.invariant.written c.write_plain-made.ensures.made history sees place
    its) c.in-Finished.ensures

pub returns-in-Finished-clause-still : goal.returns-in-Finished-clause-still
returns-in-Finished-clause-still g c = λ none.
    let stands = c.requires.stands in
    let made = turns-behind c.writes.invariant.written c.write_plain-made.ensures.made stands.0 stands.1 stands.2
    stands.3 in
    let before = c.writes.invariant.still (omega (arith, none)) in
    let last = c.write_plain-made.ensures.still (omega (arith, none)) in
    let end = none-written stands.2 made c.in-Finished.ensures in
    (end.0 ∙ (last.0 ∙ before.0), end.1 ∙ (last.1 ∙ before.1))

pub returns-clause-taken : goal.returns-clause-taken
returns-clause-taken g c = λ history sees place its.
    (c.writes.invariant.written history sees place its, λ fewer. absurd (omega (arith, fewer, c.writes-test.false)))

pub write_one-requires-clause-low : goal.write_one-requires-clause-low
write_one-requires-clause-low c = grind (arith, common_steps)

pub write_plain-made-requires-clause-fits : goal.write_plain-made-requires-clause-fits
write_plain-made-requires-clause-fits c = grind (arith, common_steps)

pub write_plain-made-requires-clause-low : goal.write_plain-made-requires-clause-low
write_plain-made-requires-clause-low c = grind (arith, common_steps)

pub writes-smaller : goal.writes-smaller
writes-smaller c = grind (arith, common_steps)
