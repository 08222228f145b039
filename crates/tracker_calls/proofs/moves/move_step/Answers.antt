use Rattle.std.proofs.Common.{rules, arith, refl}
use Rattle.tracker_calls.proofs.Adding.{tried-none}
use Rattle.tracker_calls.proofs.Stepping.{next-visit, stepped-tried}
use Rattle.tracker_calls.proofs.moves.move_step.Goals as goal

pub returns-then-spare-eq0 : goal.returns-then-spare-eq0
returns-then-spare-eq0 c = record {
  step = (
    (
      next-visit c.args.tracker.now.setup c.args.handset.now c.requires.plan c.next.ensures.exact c.if-is_none.ensures,
      omega (arith, c.spare.ensures, c.if-spare-eq0.true),
      refl,
      refl,
    ),
    refl,
  );
}

pub returns-in-Ok : goal.returns-in-Ok
returns-in-Ok c =
    let made = c.in-Ok.ensures.made in
    let next = next-visit c.args.tracker.now.setup c.args.handset.now c.requires.plan c.next.ensures.exact
    c.if-is_none.ensures in
    record {
      step = (stepped-tried c.visit_put.new.pass c.args.handset.now c.in-Ok.ticket c.requires.plan
          (next.0, next.1, tried-none _ c.args.pass.now) (omega (arith, c.spare.ensures, c.if-spare-eq0.false)) made.0
          made.1 made.2 c.in-Ok.ensures.goes_on).0;
    }

pub returns-in-Err : goal.returns-in-Err
returns-in-Err c = search rules
