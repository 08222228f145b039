use Rattle.std.proofs.Common.{◌≡◌, [], subst, sym}
use Rattle.handset.specs.StepWrites.{due}
use Rattle.region_plan.specs.Settings.{setting_of}
use Rattle.runner.specs.Playing.{next_of}
use Rattle.runner.proofs.role.Role.visit.Goals as goal

pub returns-in-Mover : goal.returns-in-Mover
returns-in-Mover c = record {
  tries = λ input set role prepared left.
      c.put.ensures.tries input (rw c.in-Mover.is at role) (subst (λ p. next_of input c.args.tracker.now.setup
      c.args.pass.now.view ≡ due (setting_of p []) c.in-Mover.mover.handset) (sym set.plan_is)
      (rw c.in-Mover.is at prepared));
}

pub look-requires-clause-its : goal.look-requires-clause-its
look-requires-clause-its c =
    let its = c.requires.its in (
      its.0,
      its.1,
      rw c.in-Finder.is at its.2,
    )

pub returns-in-Finder : goal.returns-in-Finder
returns-in-Finder c = record {
  tries = λ input set role prepared left.
      c.look.ensures.tries input set (rw c.in-Finder.is at role);
}
