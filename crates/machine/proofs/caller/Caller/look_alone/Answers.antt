use Rattle.std.proofs.Common.{◌≡◌, ◌+◌, ◌∙◌, arith}
use Rattle.machine.proofs.Passing.{looked-through, looks-ended, looks-still, passed-none}
use Rattle.machine.proofs.Making.{may-follow}
use Rattle.machine.proofs.caller.Caller.look_alone.Goals as goal

pub returns-then-most-eq0-clause-taken : goal.returns-then-most-eq0-clause-taken
returns-then-most-eq0-clause-taken c = grind (arith, passed-none)

pub look_one-requires-clause-stands : goal.look_one-requires-clause-stands
look_one-requires-clause-stands c =
    may-follow c.requires.stands c.pass-made.ensures.passed

pub returns-in-Visited-clause-taken : goal.returns-in-Visited-clause-taken
returns-in-Visited-clause-taken c = λ history sees place its.
    let one : c.pass-made.result + 1 ≡ 1 = omega (arith, c.pass-made.ensures.few, c.if-made-eq1.false) in (
      rw one at (looked-through c.each_visit_is_next.ensures.more place
          (c.pass-made.ensures.passed history sees place its) c.in-Visited.ensures),
      λ fewer. absurd (omega (arith, fewer, c.requires.alone)),
    )

pub returns-in-Finished-clause-taken : goal.returns-in-Finished-clause-taken
returns-in-Finished-clause-taken c = λ history sees place its.
    let none : c.pass-made.result ≡ 0 = omega (arith, c.pass-made.ensures.few, c.if-made-eq1.false) in
    rw none at
    (looks-ended c.args.most place (c.pass-made.ensures.passed history sees place its) c.in-Finished.ensures)

pub returns-in-Finished-clause-still : goal.returns-in-Finished-clause-still
returns-in-Finished-clause-still c = λ zero.
    let stands = c.requires.stands in
    let none : c.pass-made.result ≡ 0 = omega (arith, c.pass-made.ensures.few, c.if-made-eq1.false) in
    looks-still stands.2 (c.pass-made.ensures.passed stands.0 stands.1 stands.2 stands.3) c.in-Finished.ensures
    ∙ c.pass-made.ensures.still none
