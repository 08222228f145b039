use Rattle.std.proofs.Common.{length, subst, sym, ◌∙◌, arith, refl}
use Rattle.directory.specs.Histories.{puts_to}
use Rattle.machine.specs.Subscribers.{MayBegin}
use Rattle.runner.proofs.Moving.{all-begun, begun-now, ready, still-due}
use Rattle.runner.proofs.mover.Mover.begin_next.Goals as goal
use Rattle.directory.specs.ListLaws.{is_some-none}

pub returns-then-is_some : goal.returns-then-is_some
returns-then-is_some c = record {
  its = λ input setup view spare set part.
      still-due set part (c.next.ensures.stands setup.homes part.its.steps (length (puts_to view.low view.seen)))
      (sym c.is_some.ensures ∙ c.if-is_some.true);
}

pub returns-then-self-len : goal.returns-then-self-len
returns-then-self-len c = record {
  its = λ input setup view spare set part.
      all-begun set part (omega (arith, c.if-self-len.true, c.len.ensures));
}

pub begin_step-requires-clause-may : goal.begin_step-requires-clause-may
begin_step-requires-clause-may c =
    let its = c.requires.its in
    let at = ready c.scripts_are_valid.ensures its.4 its.5
    (is_some-none c.next.result (sym c.is_some.ensures ∙ c.if-is_some.false)) c.next.ensures.exact
    (omega (arith, c.if-self-len.false, c.len.ensures)) c.index.ensures
    in
    subst (λ p. MayBegin p c.args.self.now.handset c.index.result.now) (sym its.4.plan_is) at.may

pub returns : goal.returns
returns c = record {
  its = λ input setup view spare set part.
      begun-now _ set.plan_is part (ready c.scripts_are_valid.ensures set part
      (is_some-none c.next.result (sym c.is_some.ensures ∙ c.if-is_some.false)) c.next.ensures.exact
      (omega (arith, c.if-self-len.false, c.len.ensures)) c.index.ensures) c.begin_step.ensures.goes
      c.begin_step.ensures.its (c.begin_step.ensures.stands setup.homes part.its.steps
      (length (puts_to view.low view.seen))) refl (omega arith);
}
