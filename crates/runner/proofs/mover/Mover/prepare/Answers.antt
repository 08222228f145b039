use Rattle.std.proofs.Common.{length}
use Rattle.directory.specs.Histories.{puts_to}
use Rattle.runner.proofs.Moving.{next-due-of}
use Rattle.runner.proofs.mover.Mover.prepare.Goals as goal

pub returns-clause-its : goal.returns-clause-its
returns-clause-its c = λ input setup view spare set its.
    let way = c.begin_next.ensures.its input setup view spare set its in
    let part = way.0 in
    let made = length (puts_to view.low view.seen) in
    let here = (rw set.plan_is at (c.next.ensures.stands setup.homes part.its.steps made)) part.its.stands in
    (part, next-due-of way here c.next.ensures.exact)

pub next-requires : goal.next-requires
next-requires c =
    let its = c.requires.its in
    let way = c.begin_next.ensures.its its.0 its.1 its.2 its.3 its.4 its.5 in record {
      goes = rw its.4.plan_is way.0.its.goes;
    }
