use Rattle.std.proofs.lemmas.Grind.{common_steps}
use Rattle.std.proofs.Common.{arith, ◌∙◌}
use Rattle.machine.proofs.Passing.{looked-through, looks-ended, looks-still, passed-none}
use Rattle.machine.proofs.Making.{turns-behind, may-follow}
use Rattle.machine.proofs.caller.Caller.look.Goals as goal

pub looks-init : goal.looks-init
looks-init g c = grind (arith, passed-none)

pub pass-made-requires-clause-stands : goal.pass-made-requires-clause-stands
pass-made-requires-clause-stands g c =
    may-follow c.requires.stands c.looks.invariant.passed

pub look_one-requires-clause-stands : goal.look_one-requires-clause-stands
look_one-requires-clause-stands g c =
    may-follow c.requires.stands (turns-behind c.looks.invariant.passed c.pass-made.ensures.passed)

pub returns-then-made-most-clause-taken : goal.returns-then-made-most-clause-taken
returns-then-made-most-clause-taken g c = λ history sees place its. (
  turns-behind c.looks.invariant.passed c.pass-made.ensures.passed history sees place its,
  λ fewer. absurd (omega (arith, fewer, c.if-made-most.true)),
)

pub returns-then-made-most-clause-still : goal.returns-then-made-most-clause-still
returns-then-made-most-clause-still g c = λ none.
    c.pass-made.ensures.still (omega (arith, none)) ∙ c.looks.invariant.still (omega (arith, none))

pub looks-preserved : goal.looks-preserved
looks-preserved g c = record {
  few = omega (arith, c.looks-test.true, c.pass-made.ensures.few, c.if-made-most.false);
  still = λ none. absurd (omega (arith, none));
  passed = λ history sees place its.
      looked-through c.each_visit_is_next.ensures.more place
      (turns-behind c.looks.invariant.passed c.pass-made.ensures.passed history sees place its) c.in-Visited.ensures;
}

pub returns-in-Finished-clause-taken : goal.returns-in-Finished-clause-taken
returns-in-Finished-clause-taken g c = λ history sees place its.
    looks-ended c.args.most place (turns-behind c.looks.invariant.passed c.pass-made.ensures.passed history sees place
    its) c.in-Finished.ensures

pub returns-in-Finished-clause-still : goal.returns-in-Finished-clause-still
returns-in-Finished-clause-still g c = λ none.
    let stands = c.requires.stands in
    let made = turns-behind c.looks.invariant.passed c.pass-made.ensures.passed stands.0 stands.1 stands.2 stands.3 in
    looks-still stands.2 made c.in-Finished.ensures ∙ c.pass-made.ensures.still (omega (arith, none))
    ∙ c.looks.invariant.still (omega (arith, none))

pub look_one-requires-clause-low : goal.look_one-requires-clause-low
look_one-requires-clause-low c = grind (arith, common_steps)

pub pass-made-requires-clause-low : goal.pass-made-requires-clause-low
pass-made-requires-clause-low c = grind (arith, common_steps)
