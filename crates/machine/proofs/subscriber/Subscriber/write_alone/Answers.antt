use Rattle.std.proofs.Common.{◌∙◌, arith}
use Rattle.machine.proofs.Making.{made-next, made-none}
use Rattle.machine.proofs.Written.{ended}
use Rattle.machine.proofs.subscriber.Subscriber.write_alone.Goals as goal

pub returns-then-most-eq0-clause-taken : goal.returns-then-most-eq0-clause-taken
returns-then-most-eq0-clause-taken c = grind (arith, made-none)

pub returns-in-Visited-clause-taken : goal.returns-in-Visited-clause-taken
returns-in-Visited-clause-taken c = λ history sees place its. (
  made-next c.each_visit_is_next.ensures.more c.next_is_own.ensures _ sees
      (c.in-Visited.ensures history sees place its),
  λ fewer. absurd (omega (arith, fewer, c.requires.alone)),
)

pub returns-in-Finished-clause-taken : goal.returns-in-Finished-clause-taken
returns-in-Finished-clause-taken c = λ history sees place its.
    ended c.args.most place (made-none _ sees its)
    (λ later sees there is. c.in-Finished.ensures later sees (there ∙ omega arith) is)
