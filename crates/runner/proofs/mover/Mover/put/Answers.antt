use Rattle.std.proofs.Common.{[], ◌∙◌, refl}
use Rattle.handset.specs.StepWrites.{due}
use Rattle.region_plan.specs.Settings.{setting_of}
use Rattle.runner.proofs.Moving.{due-some, put-held, put-on, room-left}
use Rattle.runner.proofs.mover.Mover.put.Goals as goal

pub visit_put-requires-clause-spare : goal.visit_put-requires-clause-spare
visit_put-requires-clause-spare c =
    let visit = due-some (due (setting_of c.args.plan.now []) c.args.self.now.handset) c.requires.left in
    room-left c.requires.its.1 (c.requires.its.2 ∙ visit.1)

pub returns-in-Ok : goal.returns-in-Ok
returns-in-Ok c = record {
  tries = λ input part next.
      put-on c.args.pass.now c.visit_put.new.pass _ c.in-Ok._ticket c.requires.plan part next c.requires.left
      c.in-Ok.ensures.made.0 c.in-Ok.ensures.goes_on refl refl;
}

pub returns-in-Err : goal.returns-in-Err
returns-in-Err c = record {
  tries = λ input part next.
      put-held c.args.pass.now c.visit_put.new.pass _ _ c.in-Err.held next c.requires.left c.in-Err.ensures.made.0 part
      c.in-Err.ensures.made.1 refl refl;
}
